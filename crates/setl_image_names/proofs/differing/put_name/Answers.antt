use Rattle.std.proofs.Common.{◌≡◌, ◌++◌, ◌∷◌, [], true, subst}
use Rattle.std.specs.Prelude.{IfOk, not}
use Rattle.setl_model_runs.specs.Variable.{Variable}
use Rattle.setl_code.specs.Names.{is_among}
use Rattle.setl_image_names.specs.Once.{variables_seen}
use Rattle.setl_image_names.proofs.NewNames.{former_is}
use Rattle.setl_image_names.proofs.differing.put_name.Goals as goal

pub returns-in-Former-clause-new : goal.returns-in-Former-clause-new
returns-in-Former-clause-new c n =
    subst (λ (x : Variable). IfOk c.put-in-Former.result (λ new. new ≡ not (is_among (variables_seen n c.args.seen.now.keys) x)))
    (former_is n c.in-Former.former c.from.result c.in-Former.text c.bytes-in-Former.result.now c.args.name.now c.from.ensures c.bytes-in-Former.ensures.value c.in-Former.is)
    (c.put-in-Former.ensures.new n)

pub returns-in-Former-clause-seen : goal.returns-in-Former-clause-seen
returns-in-Former-clause-seen c n =
    subst (λ (x : Variable). IfOk c.put-in-Former.result (λ new. new ≡ true → variables_seen n c.put-in-Former.new.seen.keys ≡ variables_seen n c.args.seen.now.keys ++ x ∷ []))
    (former_is n c.in-Former.former c.from.result c.in-Former.text c.bytes-in-Former.result.now c.args.name.now c.from.ensures c.bytes-in-Former.ensures.value c.in-Former.is)
    (c.put-in-Former.ensures.seen n)
