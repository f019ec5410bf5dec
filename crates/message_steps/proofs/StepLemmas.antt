-- The steps of a message, each from what it has found so far.
use Rattle.std.proofs.Common.{◌≡◌, ℕ, false, List, Option, None, Ok, refl, sym, ap, ◌∙◌}
use Rattle.std.specs.Cmp.Lexicographic.{slice_cmp, nat_list_cmp_total}
use Rattle.std.specs.Ordering.{nat_cmp}
use Rattle.editor_bridge.specs.Link.{Link}
use Rattle.file_uri.specs.Base.{BaseView}
use Rattle.file_uri.specs.PathOf.{path_of}
use Rattle.rpc_message.specs.declared.messages.ToEditor.{ToEditor}
use Rattle.rpc_message.specs.declared.refusals.Refusal.{Refusal}
use Rattle.rpc_message.specs.declared.refusals.Refusal.TheVariants.{NotOpen}
use Rattle.daemon_core.specs.Outcome.{Stays, Gone, Success, own_links}
use Rattle.daemon_core.specs.Refusing.{◌>>=◌, closed, unless_bad_uri, open_link}
use Rattle.daemon_core.specs.State.{Links, link_at}
use Rattle.daemon_events.specs.Wanting.{asks, on_close}
use Rattle.daemon_links.specs.Editing.{Stops}
use Rattle.daemon_links.specs.declared.changes.Change.{Change}
use Rattle.daemon_links.specs.declared.stops.Stop.{Stop}
use Rattle.daemon_links.specs.declared.stops.Stop.TheVariants as stop
use Rattle.daemon_links.proofs.MapLemmas.{none_gone}
use Rattle.message_steps.specs.Asking.{View, desk}
use Rattle.message_steps.specs.Following.{Asked, IsRefused}
use Rattle.message_steps.specs.declared.steps.Answer.TheVariants as answer
use Rattle.message_steps.specs.declared.steps.Step.{Step}

-- what is told of a refusal, told otherwise
pub stops_as : {P Q : Refusal → Type 0} → ((r : Refusal) → P r → Q r) → (s : Stop) → Stops P s → Stops Q s
stops_as goes (stop.Refused r) told = goes r told
stops_as goes stop.Memory told = tt

-- a step that succeeds, with these messages, this change, and this path opened
abbrev pub success : List ToEditor → Option Change → Option (List ℕ) → Step
success messages change opens =
    record { answer = answer.Success; messages = messages; change = change; opens = opens; shuts_down = false }

-- a refusal that ends the link at a path
pub refused_and_gone : (base : BaseView) (view : View) (links own : Links) (path : List ℕ) (asked : Asked) (r : Refusal) → own ≡ own_links (Gone path) links
    → asked ≡ closed path r → IsRefused (desk base view links) asked own r
refused_and_gone base view links own path asked r is e = record { event = Gone path; asked_is = e; own_is = is; silent = refl }

-- a file that is to be closed and is not open
pub close_none : (base : BaseView) (view : View) (links own : Links) (uri path : List ℕ) → path_of base uri ≡ Ok path → None ≡ link_at links path
    → own ≡ own_links (Gone path) links → IsRefused (desk base view links) (on_close (desk base view links) uri) own NotOpen
close_none base view links own uri path named none gone = record {
  event = Stays;
  asked_is =
      ap (λ r. unless_bad_uri r >>= λ p. open_link (link_at links p) >>= λ l. Ok (record (asks Success) { own = Gone p })) named
      ∙ ap (λ (o : Option Link). open_link o >>= λ l. Ok (record (asks Success) { own = Gone path })) (sym none);
  own_is = gone ∙ none_gone (slice_cmp nat_cmp) nat_list_cmp_total path links none;
  silent = refl;
}
