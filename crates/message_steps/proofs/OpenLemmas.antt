-- A file that an editor opens and that is absent.
use Rattle.std.proofs.Common.{◌≡◌, ℕ, true, List, [], length, Option, Some, None, Ok, Err, refl, sym, ap, ◌∙◌, subst, inl}
use Rattle.std.specs.BTreeMap.{insert_entry}
use Rattle.std.specs.Cmp.Lexicographic.{slice_cmp}
use Rattle.std.specs.Option.{unwrap_or}
use Rattle.std.specs.Ordering.{nat_cmp}
use Rattle.std.specs.Prelude.{if◌then◌else◌}
use Rattle.delta.specs.Cells.{applied, inserting}
use Rattle.editor_bridge.specs.Link.{Link, new_link}
use Rattle.file_uri.specs.Base.{BaseView}
use Rattle.rpc_message.specs.declared.messages.ToEditor.{ToEditor}
use Rattle.rpc_message.specs.declared.refusals.Refusal.TheVariants.{TextTooLong}
use Rattle.daemon_core.specs.History.{History}
use Rattle.daemon_core.specs.Outcome.{Stays, Opened, Gone, own_links}
use Rattle.daemon_core.specs.Refusing.{◌>>=◌, may_grow}
use Rattle.daemon_core.specs.State.{Links, link_at}
use Rattle.daemon_events.specs.Wanting.{Wanted, changing, opening}
use Rattle.daemon_links.specs.declared.changes.Change.{Change}
use Rattle.message_steps.specs.Asking.{View, desk, Shows}
use Rattle.message_steps.specs.Following.{Does, IsWantedChange}
use Rattle.message_steps.proofs.LinkLemmas.{new_gone}
use Rattle.message_steps.proofs.StepLemmas.{success}

-- what opening a file asks for that is absent
abbrev making : List ℕ → List ℕ → Wanted
making path content = record (changing path (inserting content) (Opened path content []) Stays) { opens = Some path }

-- the parts of the step, as they are found in code
pub record Makes (path content : List ℕ) (links own : Links) (opened : List ℕ) (change : Change) (messages : List ToEditor) : Type 0 where
  pub opened_is : opened ≡ path
  pub link : Link
  pub link_is : link ≡ new_link content
  pub key : List ℕ
  pub key_is : key ≡ path
  pub put : own ≡ insert_entry (slice_cmp nat_cmp) links key link
  pub path_is : change.path ≡ path
  pub delta_is : change.delta ≡ inserting content
  pub unsent : messages ≡ []

pub new_done : (base : BaseView) (files : History) (view : View) (links own : Links) (path content opened : List ℕ) (change : Change) (messages : List ToEditor) → view path ≡ None
    → Shows files view path → link_at links path ≡ None → may_grow 0 (length content) ≡ true → Makes path content links own opened change messages
    → Does files (desk base view links) (opening path content None) own (success messages (Some change) (Some opened))
new_done base files view links own path content opened change messages absent shows unopened grows makes = record {
  w = making path content;
  asked_is =
      ap (λ b.
      (if b then Ok (inserting content) else Err (record { refusal = TextTooLong (length content); own = Stays }))
      >>= λ d. Ok (record (changing path d (Opened path content []) Stays) { opens = Some path }))
      grows;
  meets = record {
    answer = refl;
    messages = makes.unsent;
    own_is = put;
    change = subst (IsWantedChange files (desk base view links) (making path content) own) (sym same) asked;
    opens = ap (λ p. Some p) (sym makes.opened_is);
    stops = refl;
  };
} where
  put : own ≡ insert_entry (slice_cmp nat_cmp) links path (new_link content)
  put = makes.put ∙ (λ i. insert_entry (slice_cmp nat_cmp) links (makes.key_is i) (makes.link_is i))

  same : change ≡ record { path = path; delta = inserting content }
  same = λ i. record { path = makes.path_is i; delta = makes.delta_is i }

  asked : IsWantedChange files (desk base view links) (making path content) own (record { path = path; delta = inserting content })
  asked = record {
    is = refl;
    at_hand = shows;
    fits = sym (ap (λ (o : Option (List ℕ)). length (unwrap_or o [])) absent);
    short = ap (λ (o : Option (List ℕ)). may_grow (length (unwrap_or o [])) (length (applied (inserting content) (unwrap_or o [])))) absent ∙ grows;
    if_refused = inl refl;
    undone = sym (ap (own_links (Gone path)) put ∙ new_gone path (new_link content) links (sym unopened));
    unsent = refl;
  }
