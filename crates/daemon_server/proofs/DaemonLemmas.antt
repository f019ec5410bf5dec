-- A daemon after each event.
use Rattle.std.proofs.Common.{◌≡◌, ℕ, not, List, [], filter, sym, ap, ◌∙◌, subst}
use Rattle.std.specs.BTreeMap.{insert_entry}
use Rattle.std.specs.Ordering.{nat_cmp}
use Rattle.file_uri.specs.Base.{BaseView}
use Rattle.rpc_message.specs.Messages.{message_of}
use Rattle.daemon_core.specs.History.{History}
use Rattle.daemon_core.specs.Laws.{IsServing}
use Rattle.daemon_core.specs.Outputs.{Served, serve, outcome_of}
use Rattle.daemon_core.specs.Sending.{AllCanBeSent}
use Rattle.daemon_core.specs.State.{Links, State, is_number}
use Rattle.daemon_core.specs.declared.events.Event.TheVariants.{EditorBegan, Ended, EditorFrame}
use Rattle.daemon_core.proofs.ServeLemmas.{goes_on}
use Rattle.daemon_server.specs.Parts.{state_of}
use Rattle.daemon_server.specs.Telling.{made_if, Serves}
use Rattle.daemon_server.specs.declared.frames.Served.{Served as InCode}
use Rattle.daemon_server.proofs.ServingLemmas.{history_same}

pub began_serving : (base : BaseView) (history : History) (before connections after : List (ℕ × Links)) (n : ℕ) → IsServing (state_of base history before)
    → connections ≡ before → after ≡ insert_entry nat_cmp connections n [] → IsServing (state_of base history after)
began_serving base history before connections after n serving same put =
    subst (λ (cs : List (ℕ × Links)). IsServing (state_of base history cs)) (sym (put ∙ ap (λ (cs : List (ℕ × Links)). insert_entry nat_cmp cs n []) same))
    (goes_on (state_of base history before) (EditorBegan n) serving)

pub ended_serving : (base : BaseView) (history : History) (before after : List (ℕ × Links)) (n : ℕ) → IsServing (state_of base history before)
    → after ≡ filter (λ c. not (is_number n c.0)) before → IsServing (state_of base history after)
ended_serving base history before after n serving gone =
    subst (λ (cs : List (ℕ × Links)). IsServing (state_of base history cs)) (sym gone) (goes_on (state_of base history before) (Ended n) serving)

-- a frame that is served, once its change is made
pub heard_served : (base : BaseView) (history made : History) (before connections after : List (ℕ × Links)) (n : ℕ) (body : List ℕ) (served : InCode) → connections ≡ before
    → Serves (state_of base history connections) n body after served → made ≡ made_if served.change history
    → serve (state_of base history before) (EditorFrame n body) ≡ record { state = state_of base made after; outputs = served.sent }
heard_served base history made before connections after n body served same serves change =
    let s : State = state_of base history connections in
    let history_is : made ≡ (outcome_of s n (message_of body)).history =
    change ∙ history_same s (outcome_of s n (message_of body)) served.change serves.change in
    sym (ap (λ (cs : List (ℕ × Links)). serve (state_of base history cs) (EditorFrame n body)) same)
    ∙ (λ i. record { state = state_of base (sym history_is i) (sym serves.connections_are i); outputs = sym serves.outputs_are i })

pub heard_serving : (base : BaseView) (history made : History) (before connections after : List (ℕ × Links)) (n : ℕ) (body : List ℕ) (served : InCode)
    → IsServing (state_of base history before) → connections ≡ before
    → Serves (state_of base history connections) n body after served → made ≡ made_if served.change history
    → IsServing (state_of base made after)
heard_serving base history made before connections after n body served serving same serves change =
    subst IsServing (ap (λ (v : Served). v.state) (heard_served base history made before connections after n body served same serves change))
    (goes_on (state_of base history before) (EditorFrame n body) serving)

-- what a frame sends can be sent, said of the daemon before
pub heard_read : (base : BaseView) (history : History) (before connections after : List (ℕ × Links)) (n : ℕ) (body : List ℕ) (served : InCode) → connections ≡ before
    → Serves (state_of base history connections) n body after served → AllCanBeSent (state_of base history before) (EditorFrame n body)
heard_read base history before connections after n body served same serves =
    subst (λ (cs : List (ℕ × Links)). AllCanBeSent (state_of base history cs) (EditorFrame n body)) same serves.read
