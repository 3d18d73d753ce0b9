use Rattle.std.proofs.Common.{◌∙◌, sym}
use Rattle.setl_value.specs.code.DatumOf.{datum}
use Rattle.setl_rep_layout.proofs.Finding.{with_found, with_missing}
use Rattle.setl_rep_layout.proofs.Words.{on_ok}
use Rattle.setl_rep_layout.proofs.found.put_value.Goals as goal

pub returns-in-None : goal.returns-in-None
returns-in-None c = with_missing c.args.base.now c.args.numbers.now (datum c.args.v.now) c.learn.ensures (sym c.find.ensures.handle ∙ c.in-None.is)

pub returns-in-Some : goal.returns-in-Some
returns-in-Some c =
    on_ok c.put.result (λ s. with_found c.args.base.now c.args.numbers.now c.put.new.self c.in-Some.e (datum c.args.v.now) c.learn.ensures c.in-Some.ensures.living s) c.put.ensures.ok
