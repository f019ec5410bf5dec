-- What holds of the plain machine, as statements.
use Rattle.std.specs.Prelude.{◌≡◌, ℕ, false, List, Some, None, Err, codes}
use Rattle.file_uri.specs.Base.{BaseView}
use Rattle.replay_script.specs.declared.moves.Move.{Move}
use Rattle.rpc_message.specs.Messages.{message_of}
use Rattle.rpc_message.specs.declared.faults.MessageFault.{MessageFault}
use Rattle.daemon_core.specs.History.{text_at}
use Rattle.daemon_core.specs.State.{is_number, links_of}
use Rattle.plain_world.specs.Lines.{word_of}
use Rattle.plain_world.specs.RawFrames.{Reader, kept_of, without_raw, raw_frame}
use Rattle.plain_world.specs.Step.{Leads}
use Rattle.plain_world.specs.World.{Host, Seat, World, host_of, running, seat_of}

-- the editor's daemon is there, and the editor shows the text of its file there
pub record ShowsFile (w : World) (x : Seat) : Type 0 where
  pub host : Host
  pub there : host_of w x.daemon ≡ Some host
  pub shows : x.editor.text ≡ text_at host.state.history x.path

-- an editor that is told to be quiet shows its daemon's text
abbrev pub QuietShowsFile : Type 0
QuietShowsFile =
    (base : BaseView) (reader : Reader) (moves : List Move) (w : World) (printed : List ℕ) (e : ℕ) (x : Seat) → Leads base reader moves w printed
    → seat_of w e ≡ Some x → word_of x ≡ codes "quiet" → ShowsFile w x

-- any two readers read each stream alike
abbrev pub ReadersAgree : Type 0
ReadersAgree = (one other : Reader) (stream : List ℕ) → one.read stream ≡ other.read stream

-- a body that is no message leaves the world as it was
abbrev pub NoMessageChangesNothing : Type 0
NoMessageChangesNothing =
    (w : World) (d : ℕ) (h : Host) (c : ℕ) (body : List ℕ) (fault : MessageFault) → running w d ≡ Some h → message_of body ≡ Err fault
    → (raw_frame w d h c body).world ≡ w

-- without a connection every other one has its links and what its reader keeps, and the daemon its files
pub record EndsAlone (h : Host) (c : ℕ) : Type 0 where
  pub gone : kept_of (without_raw c h) c ≡ None
  pub files : (without_raw c h).state.history ≡ h.state.history
  pub links : (k : ℕ) → is_number c k ≡ false → links_of (without_raw c h).state k ≡ links_of h.state k
  pub readers : (k : ℕ) → is_number c k ≡ false → kept_of (without_raw c h) k ≡ kept_of h k

-- what a fault of its frames does to a connection, it does to no other
abbrev pub BadFramesEndOneConnection : Type 0
BadFramesEndOneConnection = (h : Host) (c : ℕ) → EndsAlone h c
