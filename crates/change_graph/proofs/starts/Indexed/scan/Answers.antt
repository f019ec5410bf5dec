use Rattle.change_graph.proofs.SurveyLemmas.{landed}
use Rattle.change_graph.proofs.starts.Indexed.scan.Goals as goal

pub returns : goal.returns
returns c =
    landed c.args.self.now.ops.now c.args.from c.args.object c.args.skip c.args.count c.landing_at-landing.result c.scan_run.result
    (c.landing_at-landing.ensures c.args.self.now.ops.now c.args.self.now.exact) c.scan_run.ensures
