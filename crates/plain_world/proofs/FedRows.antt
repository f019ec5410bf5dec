-- Worked scripts that feed a connection, which compute but for the reading of its stream.
use Rattle.std.proofs.Common.{◌≡◌, ℕ, ◌<◌, ◌≤◌, ◌^◌, List, [], ◌∷◌, ◌++◌, length, codes, Option, Some, None, refl, ap, ◌∙◌, subst, append-nil, lit<, lit≤}
use Rattle.std.specs.Prelude.{option_and_then}
use Rattle.std.specs.Fmt.{digits}
use Rattle.std.specs.Str.{is_utf8, chars}
use lib.Utf8.{encode}
use Rattle.serde_json.proofs.OnLiterals.{serde_json_on_literals}
use Rattle.hex.specs.Hex.{encode_lower, encode_with}
use Rattle.replay_script.specs.declared.moves.Move.{Move}
use Rattle.rpc_frame.specs.Stream.{Begun, Broken, Reads}
use Rattle.rpc_frame.specs.Written.{frame_bytes}
use Rattle.rpc_frame.specs.declared.faults.FrameFault.TheVariants.{BadHeader}
use Rattle.rpc_frame.proofs.FrameRows.{letter-is-bad}
use Rattle.rpc_frame.proofs.HeldLemmas.{nothing_begun}
use Rattle.rpc_frame.proofs.OneReading.{one_reading}
use Rattle.rpc_frame.proofs.Readings.{reads_none, reads_behind}
use Rattle.rpc_frame.proofs.WrittenLemmas.{written_frame}
use Rattle.plain_world.specs.Handling.{Played}
use Rattle.plain_world.specs.Playing.{quietly}
use Rattle.plain_world.specs.RawFrames.{Reading, Reader, heard_so}
use Rattle.plain_world.specs.World.{beginning}
use Rattle.plain_world.specs.declared.TheConstants.{LONGEST_BODY}
use Rattle.plain_world.proofs.Rows.{then_played, run, prints}

abbrev brace : List ℕ
brace = codes "{"

-- ---- how two streams are read

frame_is_read : (reader : Reader) (body : List ℕ) → length body ≤ LONGEST_BODY → length body < 2 ^ 64
    → reader.read (frame_bytes body) ≡ record { bodies = body ∷ []; kept = Begun [] }
frame_is_read reader body within small =
    let frame : List ℕ = frame_bytes body in
    let alone : Reads LONGEST_BODY frame (body ∷ []) (Begun []) =
    subst (λ s. Reads LONGEST_BODY s (body ∷ []) (Begun [])) (append-nil frame)
    (reads_behind LONGEST_BODY body frame [] [] (Begun []) (written_frame LONGEST_BODY body within small) (reads_none LONGEST_BODY [] (nothing_begun LONGEST_BODY))) in
    let is = one_reading LONGEST_BODY frame (reader.read frame).bodies (body ∷ []) (reader.read frame).kept (Begun []) (reader.right frame) alone in
    λ i. record { bodies = is.0 i; kept = is.1 i }

abbrev no_header : List ℕ
no_header = codes "Content-Length: x"

fault_is_read : (reader : Reader) → reader.read no_header ≡ record { bodies = []; kept = Broken (BadHeader 16) }
fault_is_read reader =
    let none : Reads LONGEST_BODY no_header [] (Broken (BadHeader 16)) = record { frames = []; rest = no_header; each = tt; whole = refl; ends = letter-is-bad } in
    let is = one_reading LONGEST_BODY no_header (reader.read no_header).bodies [] (reader.read no_header).kept (Broken (BadHeader 16)) (reader.right no_header) none in
    λ i. record { bodies = is.0 i; kept = is.1 i }

-- ---- what is printed

-- the same behind a piece that is read so
abbrev heard_then : Reader → List Move → Played → Reading → Option (List ℕ)
heard_then reader moves p reading =
    option_and_then (λ (q : Played). Some q.printed) (run reader moves (then_played p (heard_so p.world 0 7 reading)))

abbrev begun : Reader → (Played → Option (List ℕ)) → Option (List ℕ)
begun reader next = option_and_then next (run reader (Move.Daemon 0 ∷ Move.BeginEditor 0 7 ∷ []) (quietly beginning))

abbrev parse_error : List ℕ
parse_error = codes "{\"error\":{\"code\":-32700,\"message\":\"parse error\"},\"id\":null,\"jsonrpc\":\"2.0\"}"

-- a body that is no JSON is answered, and nothing is held
answered_so : (reader : Reader) → begun reader (λ p. heard_then reader (Move.Held 0 ∷ []) p (record { bodies = brace ∷ []; kept = Begun [] }))
    ≡ Some (codes "told 0 7 " ++ encode_lower (frame_bytes parse_error) ++ codes "\nheld 0 0\n")
unfolding serde_json_on_literals is_utf8 chars digits encode encode_with
answered_so reader = refl

bad_body_is_answered : (reader : Reader)
    → prints reader (Move.Daemon 0 ∷ Move.BeginEditor 0 7 ∷ Move.Hear 0 7 (frame_bytes brace) ∷ Move.Held 0 ∷ [])
    ≡ Some (codes "told 0 7 " ++ encode_lower (frame_bytes parse_error) ++ codes "\nheld 0 0\n")
bad_body_is_answered reader =
    ap (λ reading. begun reader (λ p. heard_then reader (Move.Held 0 ∷ []) p reading)) (frame_is_read reader brace (lit≤ tt) (lit< tt)) ∙ answered_so reader

-- a connection whose stream has a fault has ended, and hears nothing more
ends_so : (reader : Reader) → begun reader (λ p. heard_then reader [] p (record { bodies = []; kept = Broken (BadHeader 16) })) ≡ Some (codes "hung 0 7\n")
unfolding digits
ends_so reader = refl

fault_ends_connection : (reader : Reader) → prints reader (Move.Daemon 0 ∷ Move.BeginEditor 0 7 ∷ Move.Hear 0 7 no_header ∷ []) ≡ Some (codes "hung 0 7\n")
fault_ends_connection reader = ap (λ reading. begun reader (λ p. heard_then reader [] p reading)) (fault_is_read reader) ∙ ends_so reader

nothing_so : (reader : Reader) → begun reader (λ p. heard_then reader (Move.Hear 0 7 (0 ∷ []) ∷ []) p (record { bodies = []; kept = Broken (BadHeader 16) })) ≡ None
nothing_so reader = refl

nothing_comes_behind_fault : (reader : Reader)
    → prints reader (Move.Daemon 0 ∷ Move.BeginEditor 0 7 ∷ Move.Hear 0 7 no_header ∷ Move.Hear 0 7 (0 ∷ []) ∷ []) ≡ None
nothing_comes_behind_fault reader = ap (λ reading. begun reader (λ p. heard_then reader (Move.Hear 0 7 (0 ∷ []) ∷ []) p reading)) (fault_is_read reader) ∙ nothing_so reader

-- a number is taken until its connection ends
number_is_taken : (reader : Reader) → prints reader (Move.Daemon 0 ∷ Move.BeginEditor 0 7 ∷ Move.BeginEditor 0 7 ∷ []) ≡ None
number_is_taken reader = refl

number_is_free_again : (reader : Reader) → prints reader (Move.Daemon 0 ∷ Move.BeginEditor 0 7 ∷ Move.End 0 7 ∷ Move.BeginEditor 0 7 ∷ []) ≡ Some []
number_is_free_again reader = refl

-- a shutdown is answered, and ends the connection of each editor of the daemon
abbrev shutdown : List ℕ
shutdown = codes "{\"id\":1,\"jsonrpc\":\"2.0\",\"method\":\"shutdown\"}"

abbrev one_editor : List Move
one_editor = Move.Daemon 0 ∷ Move.Editor 0 0 (codes "f") (codes "a") ∷ Move.Settle 0 ∷ Move.BeginEditor 0 7 ∷ []

abbrev stopped : Reader → Reading → Option (List ℕ)
stopped reader reading =
    option_and_then (λ p. heard_then reader (Move.Show 0 ∷ []) p reading) (run reader one_editor (quietly beginning))

stops_so : (reader : Reader) → stopped reader (record { bodies = shutdown ∷ []; kept = Begun [] })
    ≡ Some (codes "told 0 7 " ++ encode_lower (frame_bytes (codes "{\"id\":1,\"jsonrpc\":\"2.0\",\"result\":\"success\"}")) ++ codes "\nshow 0 lost \"a\"\n")
unfolding serde_json_on_literals is_utf8 chars digits encode encode_with
stops_so reader = refl

shutdown_stops : (reader : Reader) → prints reader (one_editor ++ Move.Hear 0 7 (frame_bytes shutdown) ∷ Move.Show 0 ∷ [])
    ≡ Some (codes "told 0 7 " ++ encode_lower (frame_bytes (codes "{\"id\":1,\"jsonrpc\":\"2.0\",\"result\":\"success\"}")) ++ codes "\nshow 0 lost \"a\"\n")
shutdown_stops reader = ap (stopped reader) (frame_is_read reader shutdown (lit≤ tt) (lit< tt)) ∙ stops_so reader
