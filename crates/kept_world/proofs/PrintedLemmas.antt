-- What is printed of an event: the frames of the connections that the script feeds, as the plain machine prints them.
use Rattle.std.proofs.Common.{◌≡◌, ℕ, Bool, true, false, cond, nat_lt, ◌||◌, List, [], ◌∷◌, ◌++◌, map, filter, flat_map, Option, refl, sym, ap, ◌∙◌, append-nil}
use Rattle.std.specs.Prelude.{if◌then◌else◌}
use Rattle.std.specs.List.{list_any}
use Rattle.std.proofs.lemmas.List.Concat.{flat_map-append}
use Rattle.std.proofs.lemmas.List.Folds.{list_any-append}
use Rattle.file_uri.specs.Base.{BaseView}
use Rattle.rpc_message.specs.declared.messages.MessageId.{MessageId}
use Rattle.rpc_message.specs.declared.messages.ToEditor.{ToEditor}
use Rattle.daemon_core.specs.Outcome.{Effect, Outcome}
use Rattle.daemon_core.specs.Outputs.{others_messages, reply, own_messages, send, told_outputs, sent_to_others, stop_if, outputs}
use Rattle.daemon_core.specs.State.{Links, State, is_number, links_of}
use Rattle.daemon_core.specs.declared.events.Output.{Output}
use Rattle.plain_world.specs.Lines.{told_line, told_lines}
use Rattle.plain_world.specs.declared.TheConstants.{FIRST_OWN}
use Rattle.kept_world.specs.Events.{fed_line, fed_lines, is_stop}
use Rattle.kept_world.specs.Tie.{is_fed_one}
use Rattle.kept_world.proofs.NumberLemmas.{other_number}

-- a connection of the script's own is none that the script feeds
pub own_apart : (n c : ℕ) → nat_lt n FIRST_OWN ≡ false → nat_lt c FIRST_OWN ≡ true → is_number n c ≡ false
own_apart n c own fed =
    other_number n c (λ same. let both : true ≡ false = sym fed ∙ ap (λ k. nat_lt k FIRST_OWN) (sym same) ∙ own in cc)

-- ---- one connection

own_lines : (d n : ℕ) (ms : List ToEditor) → nat_lt n FIRST_OWN ≡ false → fed_lines d (map (send n) ms) ≡ []
own_lines d n [] own = refl
own_lines d n (m ∷ ms) own =
    ap (λ b. (if b then told_line d (send n m) else []) ++ fed_lines d (map (send n) ms)) own ∙ own_lines d n ms own

lines_of_fed : (d n : ℕ) (ms : List ToEditor) → nat_lt n FIRST_OWN ≡ true → fed_lines d (map (send n) ms) ≡ told_lines d (map (send n) ms)
lines_of_fed d n [] fed = refl
lines_of_fed d n (m ∷ ms) fed =
    ap (λ b. (if b then told_line d (send n m) else []) ++ fed_lines d (map (send n) ms)) fed
    ∙ ap (λ l. told_line d (send n m) ++ l) (lines_of_fed d n ms fed)

no_line : (d : ℕ) (b : Bool) → fed_lines d (stop_if b) ≡ []
no_line d true = refl
no_line d false = refl

no_told_line : (d : ℕ) (b : Bool) → told_lines d (stop_if b) ≡ []
no_told_line d true = refl
no_told_line d false = refl

-- ---- the other connections

others_lines : (d n : ℕ) (base : BaseView) (effects : List Effect) (cs : List (ℕ × Links))
    → fed_lines d (flat_map (sent_to_others n base effects) cs) ≡ told_lines d (flat_map (sent_to_others n base effects) (filter is_fed_one cs))
others_lines d n base effects [] = refl
others_lines d n base effects (c ∷ cs) =
    flat_map-append (fed_line d) (sent_to_others n base effects c) (flat_map (sent_to_others n base effects) cs)
    ∙ ap (λ l. fed_lines d (sent_to_others n base effects c) ++ l) (others_lines d n base effects cs)
    ∙ by (nat_lt c.0 FIRST_OWN) refl where
      rest : List (ℕ × Links)
      rest = filter is_fed_one cs

      behind : List ℕ
      behind = told_lines d (flat_map (sent_to_others n base effects) rest)

      here_fed : (b : Bool) → nat_lt c.0 FIRST_OWN ≡ true → let sent : List Output = if b then [] else told_outputs base effects c in fed_lines d sent ≡ told_lines d sent
      here_fed true fed = refl
      here_fed false fed = lines_of_fed d c.0 (others_messages base effects c.1) fed

      here_own : (b : Bool) → nat_lt c.0 FIRST_OWN ≡ false → fed_lines d (if b then [] else told_outputs base effects c) ≡ []
      here_own true own = refl
      here_own false own = own_lines d c.0 (others_messages base effects c.1) own

      by : (b : Bool) → nat_lt c.0 FIRST_OWN ≡ b
          → fed_lines d (sent_to_others n base effects c) ++ behind ≡ told_lines d (flat_map (sent_to_others n base effects) (cond b (c ∷ rest) rest))
      by true fed =
          ap (λ l. l ++ behind) (here_fed (is_number n c.0) fed)
          ∙ sym (flat_map-append (told_line d) (sent_to_others n base effects c) (flat_map (sent_to_others n base effects) rest))
      by false own = ap (λ l. l ++ behind) (here_own (is_number n c.0) own)

-- none of those that the script feeds is one of its own
all_others : (n : ℕ) (base : BaseView) (effects : List Effect) (cs : List (ℕ × Links)) → nat_lt n FIRST_OWN ≡ false
    → flat_map (sent_to_others n base effects) (filter is_fed_one cs) ≡ flat_map (told_outputs base effects) (filter is_fed_one cs)
all_others n base effects [] own = refl
all_others n base effects (c ∷ cs) own = by (all_others n base effects cs own) (nat_lt c.0 FIRST_OWN) refl where
  rest : List (ℕ × Links)
  rest = filter is_fed_one cs

  by : flat_map (sent_to_others n base effects) rest ≡ flat_map (told_outputs base effects) rest → (b : Bool) → nat_lt c.0 FIRST_OWN ≡ b
      → flat_map (sent_to_others n base effects) (cond b (c ∷ rest) rest) ≡ flat_map (told_outputs base effects) (cond b (c ∷ rest) rest)
  by later true fed =
      ap (λ b. (if b then [] else told_outputs base effects c) ++ flat_map (sent_to_others n base effects) rest) (own_apart n c.0 own fed)
      ∙ ap (λ l. told_outputs base effects c ++ l) later
  by later false other = later

-- ---- an event

-- what comes on a connection of the script's own: the other connections alone are printed
pub printed_own : (d : ℕ) (s : State) (n : ℕ) (id : Option MessageId) (o : Outcome) → nat_lt n FIRST_OWN ≡ false
    → fed_lines d (outputs s n id o) ≡ told_lines d (flat_map (told_outputs s.base o.effects) (filter is_fed_one s.connections))
printed_own d s n id o own =
    let ms : List ToEditor = reply id o.answer ++ own_messages s.base o.own (links_of s n) in
    let others : List Output = flat_map (sent_to_others n s.base o.effects) s.connections in
    flat_map-append (fed_line d) (map (send n) ms) (others ++ stop_if o.shuts_down)
    ∙ ap (λ l. l ++ fed_lines d (others ++ stop_if o.shuts_down)) (own_lines d n ms own)
    ∙ flat_map-append (fed_line d) others (stop_if o.shuts_down)
    ∙ ap (λ l. fed_lines d others ++ l) (no_line d o.shuts_down)
    ∙ append-nil (fed_lines d others)
    ∙ others_lines d n s.base o.effects s.connections
    ∙ ap (told_lines d) (all_others n s.base o.effects s.connections own)

-- what comes on a connection that the script feeds
pub printed_fed : (d : ℕ) (s t : State) (n : ℕ) (id : Option MessageId) (o : Outcome) → nat_lt n FIRST_OWN ≡ true → t.base ≡ s.base
    → t.connections ≡ filter is_fed_one s.connections → links_of t n ≡ links_of s n → fed_lines d (outputs s n id o) ≡ told_lines d (outputs t n id o)
printed_fed d s t n id o fed base connections links =
    let ms : List ToEditor = reply id o.answer ++ own_messages s.base o.own (links_of s n) in
    let others : List Output = flat_map (sent_to_others n s.base o.effects) s.connections in
    let left : List Output = flat_map (sent_to_others n s.base o.effects) (filter is_fed_one s.connections) in
    flat_map-append (fed_line d) (map (send n) ms) (others ++ stop_if o.shuts_down)
    ∙ ap (λ l. l ++ fed_lines d (others ++ stop_if o.shuts_down)) (lines_of_fed d n ms fed)
    ∙ ap (λ l. told_lines d (map (send n) ms) ++ l)
    (flat_map-append (fed_line d) others (stop_if o.shuts_down)
    ∙ ap (λ l. fed_lines d others ++ l) (no_line d o.shuts_down ∙ sym (no_told_line d o.shuts_down))
    ∙ ap (λ l. l ++ told_lines d (stop_if o.shuts_down)) (others_lines d n s.base o.effects s.connections)
    ∙ sym (flat_map-append (told_line d) left (stop_if o.shuts_down)))
    ∙ sym (flat_map-append (told_line d) (map (send n) ms) (left ++ stop_if o.shuts_down))
    ∙ ap (λ l. told_lines d (map (send n) (reply id o.answer ++ own_messages s.base o.own l) ++ (left ++ stop_if o.shuts_down))) (sym links)
    ∙ ap (λ b. told_lines d (map (send n) (reply id o.answer ++ own_messages b o.own (links_of t n))
    ++ (flat_map (sent_to_others n b o.effects) (filter is_fed_one s.connections) ++ stop_if o.shuts_down))) (sym base)
    ∙ ap (λ cs. told_lines d (map (send n) (reply id o.answer ++ own_messages t.base o.own (links_of t n))
    ++ (flat_map (sent_to_others n t.base o.effects) cs ++ stop_if o.shuts_down))) (sym connections)

-- ---- whether the daemon is to stop

sent_go_on : (n : ℕ) (ms : List ToEditor) → list_any is_stop (map (send n) ms) ≡ false
sent_go_on n [] = refl
sent_go_on n (m ∷ ms) = sent_go_on n ms

others_go_on : (n : ℕ) (base : BaseView) (effects : List Effect) (cs : List (ℕ × Links)) → list_any is_stop (flat_map (sent_to_others n base effects) cs) ≡ false
others_go_on n base effects [] = refl
others_go_on n base effects (c ∷ cs) =
    list_any-append is_stop (sent_to_others n base effects c) (flat_map (sent_to_others n base effects) cs)
    ∙ ap (λ b. b || list_any is_stop (flat_map (sent_to_others n base effects) cs)) (by (is_number n c.0))
    ∙ others_go_on n base effects cs where
      by : (b : Bool) → list_any is_stop (if b then [] else told_outputs base effects c) ≡ false
      by true = refl
      by false = sent_go_on c.0 (others_messages base effects c.1)

stop_stops : (b : Bool) → list_any is_stop (stop_if b) ≡ b
stop_stops true = refl
stop_stops false = refl

-- it is just where the outcome says so
pub stops_alike : (s : State) (n : ℕ) (id : Option MessageId) (o : Outcome) → list_any is_stop (outputs s n id o) ≡ o.shuts_down
stops_alike s n id o =
    let ms : List ToEditor = reply id o.answer ++ own_messages s.base o.own (links_of s n) in
    let others : List Output = flat_map (sent_to_others n s.base o.effects) s.connections in
    list_any-append is_stop (map (send n) ms) (others ++ stop_if o.shuts_down)
    ∙ ap (λ b. b || list_any is_stop (others ++ stop_if o.shuts_down)) (sent_go_on n ms)
    ∙ list_any-append is_stop others (stop_if o.shuts_down)
    ∙ ap (λ b. b || list_any is_stop (stop_if o.shuts_down)) (others_go_on n s.base o.effects s.connections)
    ∙ stop_stops o.shuts_down
