use Rattle.std.proofs.Common.{refl, ◌∙◌, arith}
use Rattle.setl_image_shapes.specs.Effects.{outs_of}
use Rattle.setl_image_shapes.proofs.Finding.{read_at}
use Rattle.setl_image_shapes.proofs.Going.{step_inside, step_past, step_lacks, step_answer, get_is, led_none, led_some}
use Rattle.setl_image_shapes.proofs.walk.step.Goals as goal

pub index-requires : goal.index-requires
index-requires c = let inside = step_inside c.args.effects.now c.args.walk.now c.args.at c.requires.going in omega (arith, inside.1)

pub returns-in_default : goal.returns-in_default
returns-in_default c =
    let w = c.args.walk.now in
    let inside = step_inside c.args.effects.now w c.args.at c.requires.going in
    step_past c.args.effects.now w c.args.at c.requires.there c.requires.going (read_at w.found.items c.args.at c.index.result.now inside.1 c.index.ensures ∙ c.in_default.is)

pub offset_bounds-effects-at : goal.offset_bounds-effects-at
offset_bounds-effects-at c = let inside = step_inside c.args.effects.now c.args.walk.now c.args.at c.requires.going in omega (arith, inside.0)

pub bounds-effects-at : goal.bounds-effects-at
bounds-effects-at c = (step_inside c.args.effects.now c.args.walk.now c.args.at c.requires.going).0

pub overflow_add-at : goal.overflow_add-at
overflow_add-at c = let inside = step_inside c.args.effects.now c.args.walk.now c.args.at c.requires.going in omega (arith, inside.0)

pub leads-requires : goal.leads-requires
leads-requires c =
    let w = c.args.walk.now in
    let inside = step_inside c.args.effects.now w c.args.at c.requires.going in
    c.requires.there c.args.at c.in-Some.number (read_at w.found.items c.args.at c.index.result.now inside.1 c.index.ensures ∙ c.in-Some.is)

pub returns-in-None : goal.returns-in-None
returns-in-None c =
    let w = c.args.walk.now in
    let inside = step_inside c.args.effects.now w c.args.at c.requires.going in
    let at = read_at w.found.items c.args.at c.index.result.now inside.1 c.index.ensures ∙ c.in-Some.is in
    let led = led_none w.stacks c.leads.new.stacks _ _ c.in-None.is c.in_ok-leads.ensures in
    step_lacks c.args.effects.now w c.args.at c.in-Some.number _ c.requires.going (get_is c.args.effects.now c.args.at _ inside.0) at led

pub returns-in-Some-2 : goal.returns-in-Some-2
returns-in-Some-2 c =
    let w = c.args.walk.now in
    let inside = step_inside c.args.effects.now w c.args.at c.requires.going in
    let at = read_at w.found.items c.args.at c.index.result.now inside.1 c.index.ensures ∙ c.in-Some.is in
    let led = led_some w.stacks c.leads.new.stacks _ c.in-Some-2.ways _ c.in-Some-2.is c.in_ok-leads.ensures in
    step_answer c.arrive_all.result c.args.effects.now w (record w { stacks = c.leads.new.stacks }) c.arrive_all.new.walk c.args.at c.in-Some.number _ (outs_of c.leads.new.stacks c.in-Some-2.ways) (record { grown = led.0; found = refl; pending = refl }) c.requires.there c.requires.going (get_is c.args.effects.now c.args.at _ inside.0) at led.1 c.arrive_all.ensures
