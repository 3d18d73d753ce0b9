use Rattle.std.proofs.Common.{sym, subst, map}
use Rattle.std.specs.Prelude.{refl}
use Rattle.setl_value.specs.code.Counted.{IsCounted}
use Rattle.setl_value.specs.code.DatumOf.{page}
use Rattle.setl_value.proofs.Bodies.{set_empty}
use Rattle.setl_value.proofs.Pages.new.Goals as goal

pub invariant_of-result : goal.invariant_of-result
invariant_of-result c =
    subst (λ l. IsCounted (map page l) 0 1 0) (sym c.new.ensures.items) (record { pages = tt; members = set_empty; counted = refl; deepest = refl; no_pairs = refl })
