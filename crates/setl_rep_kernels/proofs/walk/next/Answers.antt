use Rattle.std.proofs.Common.{sym, subst}
use Rattle.std.specs.Option.{ForSome}
use Rattle.setl_base.specs.Base.{IsLiving}
use Rattle.setl_rep_forms.specs.FormOf.{form}
use Rattle.setl_rep_based.specs.Numbers.{layout_of, numbers_in}
use Rattle.setl_rep_kernels.specs.Kernels.{IsAfter}
use Rattle.setl_rep_kernels.proofs.Sets.{form_of_parts}
use Rattle.setl_rep_kernels.proofs.walk.next.Goals as goal

pub next_in-requires : goal.next_in-requires
next_in-requires c =
    let e = form_of_parts (form c.args.s.now) (layout_of c.in_ok-b.numbers) c.in_ok-b.b (numbers_in c.in_ok-b.numbers) (sym c.in_ok-b.ensures) in
    subst (λ q. ForSome c.args.after (IsLiving q)) (sym c.at.ensures.base) (subst (λ f. IsAfter c.args.bases.now f c.args.after) e c.requires.after)
