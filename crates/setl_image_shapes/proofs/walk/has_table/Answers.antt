use Rattle.std.proofs.Common.{◌≡◌, [], ◌∷◌, length, get_or, subst, arith}
use Rattle.setl_image_shapes.specs.declared.walk.Walk.{Walk}
use Rattle.setl_image_shapes.specs.Tables.{Came}
use Rattle.setl_image_shapes.proofs.Going.{start_goes, start_fails, end_table, empty_from}
use Rattle.setl_image_shapes.proofs.walk.has_table.Goals as goal

pub returns-then-not-branch : goal.returns-then-not-branch
returns-then-not-branch c =
    let w : Walk = record { stacks = c.new.result; found = c.in_ok-nothing_found.field-0; pending = c.new-2.result } in
    start_fails c.args.effects.now w c.new.ensures c.in_ok-nothing_found.ensures c.arrive.new.walk (subst (λ b. Came b w ((0, get_or w.stacks 0 []) ∷ []) c.arrive.new.walk) c.if-not-branch.true c.in_ok-arrive.ensures)

pub steps-init : goal.steps-init
steps-init c =
    let w : Walk = record { stacks = c.new.result; found = c.in_ok-nothing_found.field-0; pending = c.new-2.result } in
    let came = subst (λ b. Came b w ((0, get_or w.stacks 0 []) ∷ []) c.arrive.new.walk) c.if-not-branch.false c.in_ok-arrive.ensures in
    record { there = came.0; going = start_goes c.args.effects.now w c.new.ensures c.in_ok-nothing_found.ensures c.arrive.new.walk c.new-2.ensures.items came }

pub returns : goal.returns
returns c =
    let none : length c.steps.walk.pending.items ≡ 0 = omega (arith, c.in_default.ensures.cases.0) in
    end_table c.args.effects.now c.steps.walk c.steps.invariant.going (empty_from c.steps.walk.pending.items none)
