use Rattle.std.proofs.Common.{◌∙◌, sym}
use Rattle.setl_value.specs.code.Body.{Members}
use Rattle.setl_set.proofs.Included.{included, included_is, none_left, none_right, first_less}
use Rattle.setl_set.proofs.Places.{rising_from_set}
use Rattle.setl_set.proofs.rising.subset.Goals as goal

pub returns-in_default-y : goal.returns-in_default-y
returns-in_default-y c =
    let xs = Members c.args.a.now in
    let ys = Members c.args.b.now in
    none_right c.in-Some.v c.loop-x.x c.loop-x.y c.loop-x.left c.loop-x.right (included xs ys) c.loop-x.invariant c.in-Some.is c.in_default-y.is
    ∙ included_is xs ys (rising_from_set xs c.learn.ensures) (rising_from_set ys c.learn-2.ensures)

pub returns-in-Less : goal.returns-in-Less
returns-in-Less c =
    let xs = Members c.args.a.now in
    let ys = Members c.args.b.now in
    first_less c.in-Some.v c.in-Some-y.w c.loop-x.x c.loop-x.y c.loop-x.left c.loop-x.right (included xs ys) c.loop-x.invariant c.in-Some.is c.in-Some-y.is (sym c.in-Less.ensures)
    ∙ included_is xs ys (rising_from_set xs c.learn.ensures) (rising_from_set ys c.learn-2.ensures)

pub returns : goal.returns
returns c =
    let xs = Members c.args.a.now in
    let ys = Members c.args.b.now in
    none_left c.loop-x.y c.loop-x.x c.loop-x.left c.loop-x.right (included xs ys) c.loop-x.invariant c.in_default.is
    ∙ included_is xs ys (rising_from_set xs c.learn.ensures) (rising_from_set ys c.learn-2.ensures)
