-- Whatever comes, a daemon goes on to serve.
use Rattle.std.proofs.Common.{◌≡◌, ℕ, Bool, true, false, cond, not, List, [], filter, Option, Some, None, Result, Ok, Err, refl, sym, ap, ◌∙◌, subst}
use Rattle.std.specs.BTreeMap.{insert_entry}
use Rattle.std.specs.Map.{lookup}
use Rattle.std.specs.Option.{option_map, unwrap_or}
use Rattle.std.specs.Ordering.{nat_cmp}
use Rattle.std.specs.Prelude.{if◌then◌else◌}
use Rattle.std.proofs.lemmas.Cmp.{nat_cmp_total}
use Rattle.editor_bridge.specs.Link.{Link}
use Rattle.rpc_message.specs.Messages.{message_of}
use Rattle.rpc_message.specs.declared.faults.MessageFault.{MessageFault}
use Rattle.rpc_message.specs.declared.faults.MessageFault.TheVariants as fault
use Rattle.rpc_message.specs.declared.messages.Incoming.{Incoming}
use Rattle.daemon_core.specs.Laws.{IsLinked, IsServing}
use Rattle.daemon_core.specs.Outcome.{Outcome, own_links, told_links, links_after, state_after, state_told}
use Rattle.daemon_core.specs.Outputs.{outcome_of, serve}
use Rattle.daemon_core.specs.State.{Links, State, is_number, link_at, links_of, link_of}
use Rattle.daemon_core.specs.declared.events.Event.{Event}
use Rattle.daemon_core.specs.declared.events.Event.TheVariants.{EditorBegan, Ended, EditorFrame}
use Rattle.daemon_core.proofs.FileLemmas.{lookup_put}
use Rattle.daemon_core.proofs.MapLemmas.{lookup_without, none_left, lookup_each, number_same}
use Rattle.daemon_core.proofs.StepLemmas.{IsSound, IsChange}
use Rattle.daemon_core.proofs.MessageLemmas.{message_sound, stays_sound, told_all}

-- what a connection has open, as a look-up finds it
abbrev found_links : Option Links → Links
found_links found = unwrap_or found []

pub after_sound : (s : State) (n : ℕ) (o : Outcome) → IsServing s → IsSound s n o → IsServing (state_after s n o)
after_sound s n o h sound = record {
  linked = λ c path link found. by c path link (lookup (is_number c) s.connections) refl (sym (ap (λ ls. link_at ls path) (here c)) ∙ found);
} where
  here : (c : ℕ) → links_of (state_after s n o) c ≡ found_links (option_map (links_after n o c) (lookup (is_number c) s.connections))
  here c = ap found_links (lookup_each (is_number c) (links_after n o) c (number_same c) s.connections)

  of_links : (c : ℕ) (path : List ℕ) (link : Link) (links : Links) → links_of s c ≡ links → (b : Bool) → is_number n c ≡ b
      → link_at (if b then own_links o.own links else told_links o.effects links) path ≡ Some link → IsLinked o.history path link
  of_links c path link links is true own found =
      let same : links ≡ links_of s n = sym is ∙ ap (links_of s) (sym (number_same n c own)) in
      sound.own path link (ap (λ ls. link_at (own_links o.own ls) path) (sym same) ∙ found)
  of_links c path link links is false other found =
      told_all s o sound.change links (λ p l there. h.linked c p l (ap (λ ls. link_at ls p) is ∙ there)) path link found

  by : (c : ℕ) (path : List ℕ) (link : Link) (links : Option Links) → lookup (is_number c) s.connections ≡ links
      → link_at (found_links (option_map (links_after n o c) links)) path ≡ Some link → IsLinked o.history path link
  by c path link None is found = cc
  by c path link (Some links) is found = of_links c path link links (ap found_links is) (is_number n c) refl found

-- the same after a message that came on no connection of the daemon
pub told_serving : (s : State) (o : Outcome) → IsServing s → IsChange s o → IsServing (state_told s o)
told_serving s o h change = record {
  linked = λ c path link found. by c path link (lookup (is_number c) s.connections) refl (sym (ap (λ ls. link_at ls path) (here c)) ∙ found);
} where
  here : (c : ℕ) → links_of (state_told s o) c ≡ found_links (option_map (told_links o.effects) (lookup (is_number c) s.connections))
  here c = ap found_links (lookup_each (is_number c) (λ k. told_links o.effects) c (number_same c) s.connections)

  by : (c : ℕ) (path : List ℕ) (link : Link) (links : Option Links) → lookup (is_number c) s.connections ≡ links
      → link_at (found_links (option_map (told_links o.effects) links)) path ≡ Some link → IsLinked o.history path link
  by c path link None is found = cc
  by c path link (Some links) is found =
      told_all s o change links (λ p l there. h.linked c p l (ap (λ ls. link_at (found_links ls) p) is ∙ there)) path link found

pub began : (s : State) (n : ℕ) → IsServing s → IsServing (serve s (EditorBegan n)).state
began s n h = record { linked = λ c path link found. by c path link (is_number c n) refl found } where
  put : (c : ℕ) → lookup (is_number c) (insert_entry nat_cmp s.connections n []) ≡ cond (is_number c n) (Some []) (lookup (is_number c) s.connections)
  put c = lookup_put nat_cmp nat_cmp_total n c [] s.connections

  by : (c : ℕ) (path : List ℕ) (link : Link) (b : Bool) → is_number c n ≡ b
      → link_of (serve s (EditorBegan n)).state c path ≡ Some link → IsLinked s.history path link
  by c path link true new found =
      let none : None ≡ Some link =
      sym (ap (λ ls. link_at (found_links ls) path) (put c ∙ ap (λ b. cond b (Some []) (lookup (is_number c) s.connections)) new)) ∙ found in cc
  by c path link false old found =
      h.linked c path link
      (sym (ap (λ ls. link_at (found_links ls) path) (put c ∙ ap (λ b. cond b (Some []) (lookup (is_number c) s.connections)) old)) ∙ found)

pub ended : (s : State) (n : ℕ) → IsServing s → IsServing (serve s (Ended n)).state
ended s n h = record { linked = λ c path link found. by c path link (is_number n c) refl found } where
  left : List (ℕ × Links)
  left = filter (λ e. not (is_number n e.0)) s.connections

  others : (c : ℕ) (path : List ℕ) (link : Link) (links : Option Links) → lookup (is_number c) left ≡ links → is_number n c ≡ false
      → link_at (found_links links) path ≡ Some link → IsLinked s.history path link
  others c path link None is apart found = cc
  others c path link (Some links) is apart found =
      h.linked c path link
      (ap (λ ls. link_at (found_links ls) path)
      (lookup_without (is_number c) (is_number n) s.connections links is
      (λ k at_k. subst (λ m. is_number n m ≡ false) (number_same c k at_k) apart))
      ∙ found)

  by : (c : ℕ) (path : List ℕ) (link : Link) (b : Bool) → is_number n c ≡ b
      → link_at (found_links (lookup (is_number c) left)) path ≡ Some link → IsLinked s.history path link
  by c path link true same found =
      let none : lookup (is_number c) left ≡ None =
      subst (λ m. lookup (is_number m) left ≡ None) (number_same n c same) (none_left (is_number n) s.connections) in
      let never : None ≡ Some link = sym (ap (λ ls. link_at (found_links ls) path) none) ∙ found in cc
  by c path link false apart found = others c path link (lookup (is_number c) left) refl apart found

-- whatever a body comes to
pub outcome_sound : (s : State) (n : ℕ) (r : Result Incoming MessageFault) → IsServing s → IsSound s n (outcome_of s n r)
outcome_sound s n (Ok m) h = message_sound s n m.message (h.linked n)
outcome_sound s n (Err (fault.Refused id cause)) h = stays_sound s n _ refl refl refl (h.linked n)
outcome_sound s n (Err fault.Memory) h = stays_sound s n _ refl refl refl (h.linked n)

pub goes_on : (s : State) (event : Event) → IsServing s → IsServing (serve s event).state
goes_on s (EditorBegan n) h = began s n h
goes_on s (Ended n) h = ended s n h
goes_on s (EditorFrame n body) h =
    after_sound s n (outcome_of s n (message_of body)) h (outcome_sound s n (message_of body) h)
