-- A move that is made again and again, and all that is under way between an editor and its daemon.
use Rattle.std.proofs.Common.{◌≡◌, ℕ, zero, suc, Bool, true, false, List, [], ◌++◌, length, Option, Some, None, is_some, refl, sym, ap, ◌∙◌, subst, append-nil, append_assoc}
use Rattle.std.specs.Prelude.{option_and_then}
use Rattle.file_uri.specs.Base.{BaseView}
use Rattle.file_uri.specs.UriOf.{uri_of}
use Rattle.bridge_world.specs.Lists.{only_if}
use Rattle.plain_world.specs.Handling.{Played}
use Rattle.plain_world.specs.Playing as plain
use Rattle.plain_world.specs.Playing.{again, continued, count_sent, count_wire}
use Rattle.plain_world.specs.World as P
use Rattle.kept_world.specs.Events.{KeptPlayed}
use Rattle.kept_world.specs.Moves.{IsUp, IsDown, then_played, has_up, has_down, Repeats, Never, No_more, Once_more, IsSettled}
use Rattle.kept_world.specs.Tie.{Ties}
use Rattle.kept_world.specs.Steps.{quietly}
use Rattle.kept_world.specs.Worlds.{KeptEditor, KeptWorld, editor_of}
use Rattle.kept_world.proofs.Alike.{Alike, Comes, comes_to}
use Rattle.kept_world.proofs.DownLemmas.{down_alike}
use Rattle.kept_world.proofs.PossibleLemmas.{up_possible, down_possible}
use Rattle.kept_world.proofs.StillLemmas.{up_length, down_length}
use Rattle.kept_world.proofs.TieLemmas.{sits_alike}

-- a move does alike in both worlds, whatever they are
abbrev pub DoesAlike : BaseView → (KeptWorld → KeptPlayed → Type 0) → (P.World → Option Played) → Type 0
DoesAlike base Does move = (k : KeptWorld) (w : P.World) (p : KeptPlayed) → Ties base k w → Does k p → Comes base (move w) p

-- what was played, behind what was printed before
abbrev pub behind : List ℕ → Played → Played
behind before next = record { world = next.world; printed = before ++ next.printed }

-- what a program has played, and what the plain machine has behind what was printed before
abbrev pub AlikeBehind : BaseView → List ℕ → KeptPlayed → Played → Type 0
AlikeBehind base before p all = Alike base (record { world = p.world; printed = before ++ p.printed }) all

-- and is possible in the one just where it is in the other
abbrev pub IsPossibleAlike : BaseView → (KeptWorld → Bool) → (P.World → Option Played) → Type 0
IsPossibleAlike base can move = (k : KeptWorld) (w : P.World) → Ties base k w → can k ≡ is_some (move w)

stops : (result : Option Played) → is_some result ≡ false → result ≡ None
stops None none = refl
stops (Some next) none = let never : true ≡ false = none in cc

-- nothing more is played in the plain machine either, however often
no_more : (base : BaseView) (move : P.World → Option Played) (n : ℕ) (k : KeptWorld) (w : P.World) (before : List ℕ) → Ties base k w → move w ≡ None
    → AlikeBehind base before (quietly k) (again move n (record { world = w; printed = before }))
no_more base move zero k w before ties none = record { tied = ties; printed = append-nil before }
no_more base move (suc n) k w before ties none =
    subst (λ result. AlikeBehind base before (quietly k) (continued (again move n) (record { world = w; printed = before }) result)) (sym none)
    (record { tied = ties; printed = append-nil before })

pub again_alike : (base : BaseView) (Does : KeptWorld → KeptPlayed → Type 0) (can : KeptWorld → Bool) (move : P.World → Option Played)
    → DoesAlike base Does move → IsPossibleAlike base can move
    → (n : ℕ) (k : KeptWorld) (p : KeptPlayed) → Repeats Does can n k p → (w : P.World) (before : List ℕ) → Ties base k w
    → AlikeBehind base before p (again move n (record { world = w; printed = before }))
again_alike base Does can move alike possible _ _ _ (Never k) w before ties = record { tied = ties; printed = append-nil before }
again_alike base Does can move alike possible _ _ _ (No_more n k none) w before ties =
    no_more base move n k w before ties (stops (move w) (sym (possible k w ties) ∙ none))
again_alike base Does can move alike possible _ _ _ (Once_more n k first next does more) w before ties =
    let one : Comes base (move w) first = alike k w first ties does in
    let rest : AlikeBehind base (before ++ first.printed) next (again move n (record { world = one.next.world; printed = before ++ first.printed })) =
    again_alike base Does can move alike possible n first.world next more one.next.world (before ++ first.printed) one.alike.tied in
    let so : AlikeBehind base (before ++ first.printed) next (again move n (behind before one.next)) =
    subst (λ printed. AlikeBehind base (before ++ first.printed) next (again move n (record { world = one.next.world; printed = before ++ printed })))
    one.alike.printed rest in
    subst (λ result. AlikeBehind base before (then_played first next) (continued (again move n) (record { world = w; printed = before }) result)) (sym one.is)
    (record { tied = so.tied; printed = sym (append_assoc before first.printed next.printed) ∙ so.printed })

-- What is under way from an editor, and then what is under way to it.
pub settles_alike : (base : BaseView) (k : KeptWorld) (w : P.World) (e : ℕ) (p : KeptPlayed) → DoesAlike base (λ v. IsUp v e) (λ v. plain.goes_up v e)
    → Ties base k w → IsSettled k e p → Comes base (plain.settles w e) p
settles_alike base k w e p up_alike ties settled =
    let x : KeptEditor = settled.before in
    let across = sits_alike base k w e x ties settled.there in
    let t = across.tied in
    let sent : count_sent (P.seat_of w e) ≡ length x.seat.up =
    ap count_sent across.there ∙ ap (λ editor. length editor.sent) t.plain ∙ sym (up_length (uri_of base x.path) x.seat t.counted t.tied) in
    let up : Alike base settled.up (plain.all_up w e) =
    subst (λ n. Alike base settled.up (again (λ v. plain.goes_up v e) n (plain.quietly w))) (sym sent)
    (again_alike base (λ v. IsUp v e) (λ v. has_up (editor_of v e)) (λ v. plain.goes_up v e) up_alike (λ l u. up_possible base l u e) (length x.seat.up) k settled.up settled.goes_up w [] ties) in
    let v : P.World = (plain.all_up w e).world in
    let z : KeptEditor = settled.between in
    let still = sits_alike base settled.up.world v e z up.tied settled.still in
    let s = still.tied in
    let wire : count_wire (P.seat_of v e) ≡ length z.seat.down =
    ap count_wire still.there ∙ ap (λ editor. length editor.wire) s.plain ∙ sym (down_length (uri_of base z.path) z.seat s.counted s.tied) in
    let down : AlikeBehind base (plain.all_up w e).printed settled.down (plain.all_down e (plain.all_up w e)) =
    subst (λ n. AlikeBehind base (plain.all_up w e).printed settled.down (again (λ v. plain.goes_down v e) n (plain.all_up w e))) (sym wire)
    (again_alike base (λ v. IsDown v e) (λ v. has_down (editor_of v e)) (λ v. plain.goes_down v e) (λ l u q. down_alike base l u e q)
    (λ l u. down_possible base l u e) (length z.seat.down) settled.up.world settled.down
    settled.goes_down v (plain.all_up w e).printed up.tied) in
    let steps : plain.settles w e ≡ Some (plain.all_down e (plain.all_up w e)) =
    ap (option_and_then (λ (q : P.Seat). only_if (is_some q.connection) (plain.all_down e (plain.all_up w e)))) across.there
    ∙ ap (λ connection. only_if (is_some connection) (plain.all_down e (plain.all_up w e))) t.connection
    ∙ ap (λ b. only_if b (plain.all_down e (plain.all_up w e))) settled.connected in
    comes_to base (plain.settles w e) p (then_played settled.up settled.down) (plain.all_down e (plain.all_up w e)) (sym settled.is) steps
    (record { tied = down.tied; printed = ap (λ printed. printed ++ settled.down.printed) up.printed ∙ down.printed })
