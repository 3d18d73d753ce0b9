use Rattle.std.proofs.Common.{subst, sym, arith, ap, ◌≡◌, ◌∙◌, map}
use Rattle.std.specs.FinSet as set
use Rattle.std.specs.List.{filter_map}
use Rattle.std.specs.Result.{IfOk}
use Rattle.setl_value.specs.code.Body.{Members}
use Rattle.setl_value.specs.Datum.{depth, set_of}
use Rattle.setl_value.specs.code.DatumOf.{datum}
use Rattle.setl_set.specs.Sets.{set_from}
use Rattle.setl_rep_forms.specs.Stands.{value_at, members_at}
use Rattle.setl_rep_based.proofs.Numbering.{gathered_depth}
use Rattle.setl_rep_based.proofs.plain.set_at.Goals as goal

pub gathered-requires : goal.gathered-requires
gathered-requires c =
    let ds = filter_map (value_at c.args.base.now) c.args.numbers.now in
    let same = c.sets_have_their_members.ensures.lists c.args.base.now c.args.numbers.now in
    omega (
      arith,
      ap (λ l. depth (set_of l)) c.in_ok-values.ensures,
      gathered_depth c.tests_are_exact.ensures.membership c.operations_have_their_members.ensures.gather ds,
      ap (λ l. depth (set_of l)) same,
      c.requires,
    )

pub returns : goal.returns
returns c =
    let values : map datum c.in_ok-values.values.items ≡ filter_map (value_at c.args.base.now) c.args.numbers.now = c.in_ok-values.ensures in
    let same : set_from (map datum c.in_ok-values.values.items) ≡ members_at c.args.base.now (set.from_list c.args.numbers.now) = ap set_from values ∙ sym (c.sets_have_their_members.ensures.lists c.args.base.now c.args.numbers.now) in
    subst (λ l. IfOk c.gathered.result (λ s. Members s ≡ l)) same c.gathered.ensures
