-- Links that are told of a change.
use Rattle.std.proofs.Common.{◌≡◌, ℕ, ◌<◌, Bool, true, List, [], ◌∷◌, ◌++◌, append_assoc, append-nil, length, map, refl, sym, ap, ◌∙◌, subst, arith}
use Rattle.std.proofs.Common.{Option, Some, None}
use Rattle.std.specs.BTreeMap.{insert_entry}
use Rattle.std.specs.Cmp.{nat_cmp_total}
use Rattle.std.specs.Cmp.Lexicographic.{slice_cmp, nat_list_cmp_total}
use Rattle.std.specs.List.{flat_map}
use Rattle.std.specs.List.Sorted.{IsStrictlySortedBy}
use Rattle.std.specs.Map.{keys_of, set_value}
use Rattle.std.specs.Ordering.{nat_cmp}
use Rattle.std.specs.Prelude.{if◌then◌else◌}
use Rattle.delta.specs.Cells.{Cells, base_length, changes_nothing}
use Rattle.editor_bridge.specs.Link.{Link, issued, daemon_text, daemon_length}
use Rattle.file_uri.specs.Base.{BaseView}
use Rattle.file_uri.specs.UriOf.{uri_of}
use Rattle.rpc_message.specs.declared.messages.ToEditor.{ToEditor}
use Rattle.rpc_message.specs.declared.messages.ToEditor.TheVariants.{Edit}
use Rattle.text_position.specs.Changes.{edits_of}
use Rattle.daemon_core.specs.History.{is_path}
use Rattle.daemon_core.specs.Outcome.{Effect, effects_of, told_links}
use Rattle.daemon_core.specs.Outputs.{of_link, told_messages, told_outputs, send}
use Rattle.daemon_core.specs.Sending.{CanBeSent, EachCanBeSent, messages_told}
use Rattle.daemon_core.specs.State.{Links, link_at, at_path}
use Rattle.daemon_core.specs.declared.events.Output.{Output}
use Rattle.daemon_core.proofs.SendingLemmas.{all_appended}
use Rattle.daemon_links.specs.Changing.{MayTell, AllMayTell, effect_of}
use Rattle.daemon_links.specs.declared.changes.Change.{Change}
use Rattle.daemon_links.proofs.MapLemmas.{set_here, none_here, put_last, same_keys}

pub none_told : (path : List ℕ) (f : Link → Link) (links now : Links) → links ≡ now → None ≡ link_at links path → links ≡ at_path path f now
none_told path f links now is none = sym (none_here (slice_cmp nat_cmp) nat_list_cmp_total path f links none) ∙ ap (at_path path f) is

pub one_told : (path : List ℕ) (f : Link → Link) (links now new : Links) (link after : Link) → links ≡ now → IsStrictlySortedBy (slice_cmp nat_cmp) (keys_of links)
    → Some link ≡ link_at links path → new ≡ set_value (is_path path) links after → after ≡ f link → new ≡ at_path path f now
one_told path f links now new link after is sorted found written told =
    written
    ∙ (ap (set_value (is_path path) links) told
    ∙ (set_here (slice_cmp nat_cmp) nat_list_cmp_total path f links link sorted found ∙ ap (at_path path f) is))

pub may_push : (text path : List ℕ) (links now : Links) (link : Link) → MayTell text path now → links ≡ now → Some link ≡ link_at links path
    → issued link < 18446744073709551615
may_push text path links now link may is found =
    let linked = may.linked.linked path link (sym (found ∙ ap (λ (ls : Links). link_at ls path) is)) in
    omega (arith, linked.issued, may.room)

-- and the change is for the text that the link leads to
pub may_fit : (text path : List ℕ) (d : Cells) (links now : Links) (link : Link) → MayTell text path now → links ≡ now → Some link ≡ link_at links path
    → base_length d ≡ length text → base_length d ≡ daemon_length link
may_fit text path d links now link may is found fits =
    let linked = may.linked.linked path link (sym (found ∙ ap (λ (ls : Links). link_at ls path) is)) in
    fits ∙ ap length (sym (linked.text ∙ may.there))

pub edit_sent : (base : BaseView) (n : ℕ) (effect : Effect) (text : List ℕ) (links now : Links) (link : Link) (output : Output) → MayTell text effect.path now
    → links ≡ now → Some link ≡ link_at links effect.path
    → output ≡ send n (Edit (uri_of base effect.path) link.taken (edits_of text effect.delta))
    → output ∷ [] ≡ told_outputs base (effect ∷ []) (n, now)
edit_sent base n effect text links now link output may is found sent =
    let there : Some link ≡ link_at now effect.path = found ∙ ap (λ (ls : Links). link_at ls effect.path) is in
    let shown : text ≡ daemon_text link = sym may.there ∙ sym (may.linked.linked effect.path link (sym there)).text in
    ap (λ (o : Output). o ∷ []) (sent ∙ ap (λ t. send n (Edit (uri_of base effect.path) link.taken (edits_of t effect.delta))) shown)
    ∙ ap (λ (l : Option Link). map (send n) (of_link l (told_messages base effect) ++ [])) there

-- a connection as it is once it is told
abbrev pub told : Effect → ℕ × Links → ℕ × Links
told effect c = (c.0, told_links (effect ∷ []) c.1)

-- what was done of all connections, and what is left to do
pub record Tells (base : BaseView) (change : Change) (text : List ℕ) (all done left : List (ℕ × Links)) (before sent : List Output) : Type 0 where
  pub links : done ++ map (told (effect_of change)) left ≡ map (told (effect_of change)) all
  pub outputs : sent ++ flat_map (told_outputs base (effect_of change ∷ [])) left ≡ before ++ flat_map (told_outputs base (effect_of change ∷ [])) all
  pub may : AllMayTell text change.path left
  pub read : EachCanBeSent (flat_map (messages_told base (effect_of change ∷ [])) left) → EachCanBeSent (flat_map (messages_told base (effect_of change ∷ [])) all)
  pub sorted : IsStrictlySortedBy nat_cmp (keys_of (done ++ left))

pub one_more : (base : BaseView) (change : Change) (text : List ℕ) (all done rest left next : List (ℕ × Links)) (n : ℕ) (links after : Links) (before sent more : List Output)
    → rest ≡ (n, links) ∷ left → Tells base change text all done rest before sent
    → after ≡ told_links (effect_of change ∷ []) links → next ≡ insert_entry nat_cmp done n after
    → more ≡ sent ++ told_outputs base (effect_of change ∷ []) (n, links) → EachCanBeSent (messages_told base (effect_of change ∷ []) (n, links))
    → Tells base change text all next left before more
one_more base change text all done rest left next n links after before sent more is h changed put out can =
    let sorted : IsStrictlySortedBy nat_cmp (keys_of (done ++ (n, links) ∷ left)) = subst (λ (r : List (ℕ × Links)). IsStrictlySortedBy nat_cmp (keys_of (done ++ r))) is h.sorted in
    let last : next ≡ done ++ (n, after) ∷ [] = put ∙ put_last nat_cmp nat_cmp_total n done left links after sorted in
    subst (λ (d : List (ℕ × Links)). Tells base change text all d left before more) (sym last)
    (record {
      links =
          append_assoc done ((n, after) ∷ []) (map (told (effect_of change)) left)
          ∙ (ap (λ (ls : Links). done ++ (n, ls) ∷ map (told (effect_of change)) left) changed
          ∙ (ap (λ (r : List (ℕ × Links)). done ++ map (told (effect_of change)) r) (sym is) ∙ h.links));
      outputs =
          ap (λ (o : List Output). o ++ flat_map (told_outputs base (effect_of change ∷ [])) left) out
          ∙ (append_assoc sent (told_outputs base (effect_of change ∷ []) (n, links)) (flat_map (told_outputs base (effect_of change ∷ [])) left)
          ∙ (ap (λ (r : List (ℕ × Links)). sent ++ flat_map (told_outputs base (effect_of change ∷ [])) r) (sym is) ∙ h.outputs));
      may = (subst (AllMayTell text change.path) is h.may).1;
      read =
          λ others.
          subst (λ (r : List (ℕ × Links)). EachCanBeSent (flat_map (messages_told base (effect_of change ∷ [])) r) → EachCanBeSent (flat_map (messages_told base (effect_of change ∷ [])) all))
          is h.read
          (all_appended CanBeSent (messages_told base (effect_of change ∷ []) (n, links)) (flat_map (messages_told base (effect_of change ∷ [])) left) can others);
      sorted = subst (IsStrictlySortedBy nat_cmp) (sym (same_keys nat_cmp nat_cmp_total n done left links after)) sorted;
    })

-- a change that changes nothing is not told
pub no_effects : (path : List ℕ) (d : Cells) (b : Bool) → b ≡ changes_nothing d → b ≡ true → effects_of path d ≡ []
no_effects path d b is nothing = ap (λ t. if t then [] else record { path = path; delta = d } ∷ []) (sym is ∙ nothing)

pub all_untold : (effects : List Effect) → effects ≡ [] → (connections : List (ℕ × Links))
    → connections ≡ map (λ c. (c.0, told_links effects c.1)) connections
all_untold effects none [] = refl
all_untold effects none (c ∷ connections) =
    λ i. (c.0, told_links (sym none i) c.1) ∷ all_untold effects none connections i

none_sent : (base : BaseView) (effects : List Effect) → effects ≡ [] → (connections : List (ℕ × Links)) → flat_map (told_outputs base effects) connections ≡ []
none_sent base effects none [] = refl
none_sent base effects none (c ∷ connections) =
    λ i. told_outputs base (none i) c ++ none_sent base effects none connections i

pub all_unsent : (base : BaseView) (effects : List Effect) (connections : List (ℕ × Links)) (sent : List Output) → effects ≡ []
    → sent ≡ sent ++ flat_map (told_outputs base effects) connections
all_unsent base effects connections sent none =
    sym (append-nil sent) ∙ ap (λ (o : List Output). sent ++ o) (sym (none_sent base effects none connections))

pub none_read : (base : BaseView) (effects : List Effect) → effects ≡ [] → (connections : List (ℕ × Links)) → EachCanBeSent (flat_map (messages_told base effects) connections)
none_read base effects none [] = tt
none_read base effects none (c ∷ connections) =
    subst (λ (es : List Effect). EachCanBeSent (messages_told base es c ++ flat_map (messages_told base effects) connections)) (sym none)
    (none_read base effects none connections)

-- where the link is there, its one message is what is told; where it is not, nothing is
pub one_read : (base : BaseView) (n : ℕ) (effect : Effect) (text : List ℕ) (links now : Links) (link : Link) (message : ToEditor) → MayTell text effect.path now
    → links ≡ now → Some link ≡ link_at links effect.path → message ≡ Edit (uri_of base effect.path) link.taken (edits_of text effect.delta)
    → CanBeSent message → EachCanBeSent (messages_told base (effect ∷ []) (n, now))
one_read base n effect text links now link message may is found wrote can =
    let there : Some link ≡ link_at now effect.path = found ∙ ap (λ (ls : Links). link_at ls effect.path) is in
    let shown : text ≡ daemon_text link = sym may.there ∙ sym (may.linked.linked effect.path link (sym there)).text in
    let told : message ∷ [] ≡ messages_told base (effect ∷ []) (n, now) =
    ap (λ (m : ToEditor). m ∷ []) (wrote ∙ ap (λ t. Edit (uri_of base effect.path) link.taken (edits_of t effect.delta)) shown)
    ∙ ap (λ (l : Option Link). of_link l (told_messages base effect) ++ []) there in
    subst EachCanBeSent told (can, tt)

pub untold_read : (base : BaseView) (n : ℕ) (effect : Effect) (links now : Links) → links ≡ now → None ≡ link_at links effect.path
    → EachCanBeSent (messages_told base (effect ∷ []) (n, now))
untold_read base n effect links now is none =
    subst (λ (l : Option Link). EachCanBeSent (of_link l (told_messages base effect) ++ [])) (none ∙ ap (λ (ls : Links). link_at ls effect.path) is) tt
