use Rattle.std.proofs.Common.{map}
use Rattle.setl_model_runs.specs.Variable.{Own}
use Rattle.setl_code.specs.Plain.{plain_name}
use Rattle.setl_image_names.proofs.NewNames.{stops_first, goes_on}
use Rattle.setl_image_names.proofs.differing.own_names_differ.Goals as goal

pub returns-then-not-branch : goal.returns-then-not-branch
returns-then-not-branch c n =
    stops_first (map (λ p. Own n p.name) c.args.params.now) (map (plain_name n) c.args.names.now) c.new-seen.result.keys n c.in_ok-put_parameters.field-0 c.new-seen.ensures.empty (c.in_ok-put_parameters.ensures.new n) c.if-not-branch.true

pub returns : goal.returns
returns c n =
    goes_on c.put_names.result (map (λ p. Own n p.name) c.args.params.now) (map (plain_name n) c.args.names.now) c.new-seen.result.keys c.put_parameters.new.seen.keys n c.in_ok-put_parameters.field-0 c.new-seen.ensures.empty (c.in_ok-put_parameters.ensures.new n) c.if-not-branch.false
    (c.in_ok-put_parameters.ensures.seen n) (c.put_names.ensures n)
