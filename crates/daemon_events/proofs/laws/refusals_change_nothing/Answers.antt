use Rattle.std.proofs.Common.{ap, refl}
use Rattle.rpc_message.specs.declared.faults.MessageFault.TheVariants as fault
use Rattle.daemon_events.specs.Laws.{FaultsChangeNothing}
use Rattle.daemon_events.specs.Serving.{or_refusal}
use Rattle.daemon_events.proofs.laws.refusals_change_nothing.Goals as goal

pub returns-clause-refusals : goal.returns-clause-refusals
returns-clause-refusals c = λ s n message refused is. record {
  holding = ap (λ r. (or_refusal s r).holding) is;
  untold = ap (λ r. (or_refusal s r).effects) is;
}

faults_leave_all : FaultsChangeNothing
faults_leave_all s n (fault.Refused id cause) = record { holding = refl; own = refl; untold = refl }
faults_leave_all s n fault.Memory = record { holding = refl; own = refl; untold = refl }

pub returns-clause-faults : goal.returns-clause-faults
returns-clause-faults c = faults_leave_all
