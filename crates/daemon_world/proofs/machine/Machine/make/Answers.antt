use Rattle.std.proofs.Common.{◌≡◌, true, is_some, subst}
use Rattle.replay_script.specs.declared.moves.Move.{Move}
use Rattle.plain_world.specs.Base.{script_base}
use Rattle.kept_world.specs.Moves.{can_move}
use Rattle.kept_world.specs.Steps.{joins}
use Rattle.daemon_world.proofs.MakeLemmas.{begins_next, joins_next, runs_for_file, runs_for_held}
use Rattle.daemon_world.proofs.machine.Machine.make.Goals as goal

pub begin_daemon-requires : goal.begin_daemon-requires
begin_daemon-requires c =
    (begins_next script_base c.args.self.now _ (subst (λ (m : Move). can_move script_base c.args.self.now m ≡ true) c.in-Daemon.is c.requires)).few

pub join-requires : goal.join-requires
join-requires c =
    let may = subst (λ (m : Move). can_move script_base c.args.self.now m ≡ true) c.in-Editor.is c.requires in
    subst (λ e. is_some (joins c.args.self.now e c.in-Editor.d c.in-Editor.path c.in-Editor.text) ≡ true) (joins_next c.args.self.now _ c.in-Editor.d c.in-Editor.path c.in-Editor.text may) may

pub type_text-requires : goal.type_text-requires
type_text-requires c =
    subst (λ (m : Move). can_move script_base c.args.self.now m ≡ true) c.in-Typed.is c.requires

pub up-requires : goal.up-requires
up-requires c =
    subst (λ (m : Move). can_move script_base c.args.self.now m ≡ true) c.in-Up.is c.requires

pub down-requires : goal.down-requires
down-requires c =
    subst (λ (m : Move). can_move script_base c.args.self.now m ≡ true) c.in-Down.is c.requires

pub settle-requires : goal.settle-requires
settle-requires c =
    subst (λ (m : Move). can_move script_base c.args.self.now m ≡ true) c.in-Settle.is c.requires

pub close-requires : goal.close-requires
close-requires c =
    subst (λ (m : Move). can_move script_base c.args.self.now m ≡ true) c.in-Close.is c.requires

pub open-requires : goal.open-requires
open-requires c =
    subst (λ (m : Move). can_move script_base c.args.self.now m ≡ true) c.in-Open.is c.requires

pub cut-requires : goal.cut-requires
cut-requires c =
    subst (λ (m : Move). can_move script_base c.args.self.now m ≡ true) c.in-Cut.is c.requires

pub show-requires : goal.show-requires
show-requires c =
    subst (λ (m : Move). can_move script_base c.args.self.now m ≡ true) c.in-Show.is c.requires

pub begin_fed-requires : goal.begin_fed-requires
begin_fed-requires c =
    subst (λ (m : Move). can_move script_base c.args.self.now m ≡ true) c.in-BeginEditor.is c.requires

pub hear-requires : goal.hear-requires
hear-requires c =
    subst (λ (m : Move). can_move script_base c.args.self.now m ≡ true) c.in-Hear.is c.requires

pub end_fed-requires : goal.end_fed-requires
end_fed-requires c =
    subst (λ (m : Move). can_move script_base c.args.self.now m ≡ true) c.in-End.is c.requires

pub write_file-requires : goal.write_file-requires
write_file-requires c =
    runs_for_file c.args.self.now c.in-File.d c.in-File.path (subst (λ (m : Move). can_move script_base c.args.self.now m ≡ true) c.in-File.is c.requires)

pub write_held-requires : goal.write_held-requires
write_held-requires c =
    runs_for_held c.args.self.now c.in-Held.d (subst (λ (m : Move). can_move script_base c.args.self.now m ≡ true) c.in-Held.is c.requires)
