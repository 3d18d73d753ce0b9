use Rattle.std.proofs.Common.{◌≡◌, ◌∙◌, ap, arith, sym, subst, map, drop, None}
use Rattle.std.specs.Prelude.{slice_get, unwrap_or}
use Rattle.setl_value.proofs.Depths.{tuple_with, part_in_tuple}
use Rattle.setl_value.proofs.Fronts.{deep_of, settles}
use Rattle.setl_value.proofs.Trim.{tuple_put, trim_depth}
use Rattle.setl_value.specs.Datum.{depth, part_depth, tuple_of}
use Rattle.setl_value.specs.code.DatumOf.{part}
use Rattle.setl_value.proofs.Leads.{lead_kept}
use Rattle.setl_value.specs.WellFormed.{IsTupleList, trim, put}
use Rattle.setl_value.proofs.TupleBody.put_at.Goals as goal

pub depth_after-self-inside-requires-clause-small : goal.depth_after-self-inside-requires-clause-small
depth_after-self-inside-requires-clause-small c =
    let ps = c.args.self.now in
    let p = part c.args.v in
    (omega (arith, c.self.invariant.1, c.self.invariant.0.1), omega (arith, c.depth_of_part-came.ensures.depth, part_in_tuple ps c.args.i p, trim_depth (put ps c.args.i p), c.requires.shallow))

pub depth_after-self-inside-requires-clause-changed : goal.depth_after-self-inside-requires-clause-changed
depth_after-self-inside-requires-clause-changed c =
    let ps = c.args.self.now in
    let s = c.self.inside.start in
    let i = c.args.i in
    let p = part c.args.v in
    let now : map part c.from-2.result.now ≡ trim (put ps i p) =
    ap (map part) (c.from-2.ensures ∙ ap (drop c.in_ok-self-inside.field-0) (c.deref-4.ensures.value ∙ ap (λ v. v.items) c.deref-3.ensures))
    ∙ c.in_ok-put_part.ensures.put ∙ ap (λ l. trim (put l i p)) (ap (map part) c.in_ok-self-inside.ensures.same ∙ c.self.view_is) in
    let gone : c.depth_at-gone.result ≡ part_depth (unwrap_or (slice_get ps i) None) =
    c.depth_at-gone.ensures.depth
    ∙ ap (λ l. part_depth (unwrap_or (slice_get l i) None)) (ap (map part) (c.from.ensures ∙ ap (drop s) (c.deref-2.ensures.value ∙ ap (λ v. v.items) c.deref.ensures)) ∙ c.self.view_is) in
    omega (arith, ap (λ l. depth (tuple_of l)) now, tuple_with ps i p, gone, c.depth_of_part-came.ensures.depth, c.self.invariant.1, ap (λ l. depth (tuple_of l)) c.self.view_is)

pub depth_after-self-inside-requires-clause-there : goal.depth_after-self-inside-requires-clause-there
depth_after-self-inside-requires-clause-there c =
    let ps = c.args.self.now in
    let p = part c.args.v in
    let now : map part c.from-2.result.now ≡ trim (put ps c.args.i p) =
    ap (map part) (c.from-2.ensures ∙ ap (drop c.in_ok-self-inside.field-0) (c.deref-4.ensures.value ∙ ap (λ v. v.items) c.deref-3.ensures))
    ∙ c.in_ok-put_part.ensures.put ∙ ap (λ l. trim (put l c.args.i p)) (ap (map part) c.in_ok-self-inside.ensures.same ∙ c.self.view_is) in
    omega (arith, ap (λ l. depth (tuple_of l)) now, part_in_tuple ps c.args.i p, c.depth_of_part-came.ensures.depth)

pub invariant_of-self-2 : goal.invariant_of-self-2
invariant_of-self-2 c =
    let ps = c.args.self.now in
    let i = c.args.i in
    let p = part c.args.v in
    let s = c.in_ok-self-inside.field-0 in
    let xs = c.put_part.new.parts.value.items in
    let now : map part (drop s xs) ≡ trim (put ps i p) = c.in_ok-put_part.ensures.put ∙ ap (λ l. trim (put l i p)) (ap (map part) c.in_ok-self-inside.ensures.same ∙ c.self.view_is) in
    let gone : c.depth_at-gone.result ≡ part_depth (unwrap_or (slice_get ps i) None) =
    c.depth_at-gone.ensures.depth
    ∙ ap (λ l. part_depth (unwrap_or (slice_get l i) None)) (ap (map part) (c.from.ensures ∙ ap (drop c.self.inside.start) (c.deref-2.ensures.value ∙ ap (λ v. v.items) c.deref.ensures)) ∙ c.self.view_is) in
    let deep : c.depth_after-self-inside.result ≡ deep_of (drop s xs) =
    c.depth_after-self-inside.ensures ∙ ap deep_of (c.from-2.ensures ∙ ap (drop s) (c.deref-4.ensures.value ∙ ap (λ v. v.items) c.deref-3.ensures)) in
    let after : c.depth_after-self-inside.result ≡ depth (tuple_of (trim (put ps i p))) = deep ∙ ap (λ l. depth (tuple_of l)) now in
    let before : c.self.inside.deep ≡ depth (tuple_of ps) = c.self.invariant.1 ∙ ap (λ l. depth (tuple_of l)) c.self.view_is in (
      subst IsTupleList (sym now) (tuple_put ps i p (subst IsTupleList c.self.view_is c.self.invariant.0) c.learn_part.ensures c.requires.shallow),
      deep,
      settles s xs c.depth_after-self-inside.result c.self.inside.deep c.depth_at-gone.result c.depth_of_part-came.result c.in_ok-self-inside.ensures.settled deep
          (omega (arith, tuple_with ps i p, gone, after, before, c.depth_of_part-came.ensures.depth))
          (omega (arith, part_in_tuple ps i p, after, c.depth_of_part-came.ensures.depth))
          (omega (arith, c.in_ok-put_part.ensures.shallow, c.in_ok-self-inside.ensures.shallow, c.self.invariant.2, c.depth_of_part-came.ensures.depth)),
      c.in_ok-put_part.ensures.inside,
      lead_kept c.lead_of-self-inside.result _ _ (record { sfits = c.lead_of-self-inside.type_inv }) c.lead_of-self-inside.ensures (c.from-3.ensures ∙ ap (drop s) (c.deref-6.ensures.value ∙ ap (λ v. v.items) c.deref-5.ensures)),
    )
