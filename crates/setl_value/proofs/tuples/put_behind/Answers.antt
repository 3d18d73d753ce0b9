use Rattle.std.proofs.Common.{◌≡◌, ◌+◌, ◌≤◌, ◌∙◌, ap, arith, sym, map, drop, length}
use Rattle.std.proofs.lemmas.List.{drop-map, length-map}
use Rattle.setl_value.specs.Datum.{depth, tuple_of}
use Rattle.setl_value.specs.code.DatumOf.{part}
use Rattle.setl_value.specs.WellFormed.{trim, put}
use Rattle.setl_value.proofs.Fronts.{put_less, put_more, drop_put}
use Rattle.setl_value.proofs.tuples.put_behind.Goals as goal

pub trim_end-requires : goal.trim_end-requires
trim_end-requires c =
    let xs = c.args.list.now.items in
    let ys = c.place_part.new.list.items in
    omega (arith, length-map ys part, length-map xs part, put_more (map part xs) (c.args.start + c.args.i) (part c.args.v), ap length c.in_ok-place_part.ensures.put, c.requires)

pub returns-clause-put : goal.returns-clause-put
returns-clause-put c =
    let s = c.args.start in
    let xs = c.args.list.now.items in
    let ys = c.place_part.new.list.items in
    let inside : s + c.args.i ≤ length (map part xs) = omega (arith, length-map xs part, c.requires) in
    let behind : map part (drop s ys) ≡ put (map part (drop s xs)) c.args.i (part c.args.v) =
    sym (drop-map part s ys) ∙ ap (drop s) c.in_ok-place_part.ensures.put
    ∙ drop_put s c.args.i (map part xs) (part c.args.v) inside ∙ ap (λ l. put l c.args.i (part c.args.v)) (drop-map part s xs) in
    c.trim_end.ensures.trimmed ∙ ap trim behind

pub returns-clause-shallow : goal.returns-clause-shallow
returns-clause-shallow c =
    omega (arith, c.trim_end.ensures.shallow, ap (λ l. depth (tuple_of l)) c.in_ok-place_part.ensures.put, put_less (map part c.args.list.now.items) (c.args.start + c.args.i) (part c.args.v))
