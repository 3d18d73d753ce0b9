use Rattle.std.proofs.Common.{sym}
use Rattle.setl_rep_forms.specs.FormOf.{form}
use Rattle.setl_rep_based.specs.Numbers.{layout_of, numbers_in}
use Rattle.setl_rep_kernels.proofs.Sets.{form_of_parts, none_in, some_in}
use Rattle.setl_rep_kernels.proofs.membership.is_in.Goals as goal

pub returns-in-None-clause-value : goal.returns-in-None-clause-value
returns-in-None-clause-value c =
    let k = layout_of c.in_ok-b.numbers in
    let ns = numbers_in c.in_ok-b.numbers in
    none_in c.sets_have_their_members.ensures.tested c.args.bases.now (form c.args.x.now) (form c.args.s.now) k c.in_ok-b.b ns c.in_ok-place.place c.at-base.ensures.known
    (form_of_parts (form c.args.s.now) k c.in_ok-b.b ns (sym c.in_ok-b.ensures)) c.in-None.is c.in_ok-place.ensures

pub returns-in-Some-clause-value : goal.returns-in-Some-clause-value
returns-in-Some-clause-value c =
    let k = layout_of c.in_ok-b.numbers in
    let ns = numbers_in c.in_ok-b.numbers in
    some_in c.sets_have_their_members.ensures.tested c.args.bases.now (form c.args.x.now) (form c.args.s.now) k c.in_ok-b.b ns c.in_ok-place.place c.in-Some.e c.test.result c.at-base.ensures.known
    (form_of_parts (form c.args.s.now) k c.in_ok-b.b ns (sym c.in_ok-b.ensures)) c.in-Some.is c.in_ok-place.ensures c.test.ensures
