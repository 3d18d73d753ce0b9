use Rattle.std.proofs.Common.{◌≡◌, ◌<◌, length, get_or, None, refl, sym, ◌∙◌, arith}
use Rattle.setl_image_shapes.proofs.Parting.{grown_on}
use Rattle.setl_image_shapes.proofs.Finding.{came_past, came_reached, came_served, came_apart, came_fallen, read_at, found_none, found_some, joined_grown}
use Rattle.setl_image_shapes.proofs.walk.arrive.Goals as goal

pub returns-then-place-len : goal.returns-then-place-len
returns-then-place-len c = came_past c.args.walk.now c.args.place.step c.args.place.stack c.requires.there (omega arith)

pub returns-in_default : goal.returns-in_default
returns-in_default c =
    let w = c.args.walk.now in
    let within : c.args.place.step < length w.found.items = omega arith in
    let none : get_or w.found.items c.args.place.step None ≡ None = read_at w.found.items c.args.place.step c.index.result.now within c.index.ensures ∙ c.in_default.is in
    came_reached w c.change.new.walk c.args.place.step c.args.place.stack c.requires.there c.requires.stack within none c.in_ok-change.ensures

pub serves-requires-clause-other : goal.serves-requires-clause-other
serves-requires-clause-other c =
    let w = c.args.walk.now in
    let within : c.args.place.step < length w.found.items = omega arith in
    c.requires.there c.args.place.step c.in-Some.known (read_at w.found.items c.args.place.step c.index.result.now within c.index.ensures ∙ c.in-Some.is)

pub returns-then-branch : goal.returns-then-branch
returns-then-branch c =
    let w = c.args.walk.now in
    let within : c.args.place.step < length w.found.items = omega arith in
    let at = read_at w.found.items c.args.place.step c.index.result.now within c.index.ensures ∙ c.in-Some.is in
    came_served w (record w { stacks = c.serves.new.self }) c.args.place.step c.args.place.stack c.in-Some.known (record { grown = c.in_ok-serves.ensures.grown; found = refl; pending = refl }) c.requires.there at (c.in_ok-serves.ensures.serves ∙ c.if-branch.true)

pub join-requires-clause-number : goal.join-requires-clause-number
join-requires-clause-number c =
    let w = c.args.walk.now in
    let within : c.args.place.step < length w.found.items = omega arith in
    let less = c.requires.there c.args.place.step c.in-Some.known (read_at w.found.items c.args.place.step c.index.result.now within c.index.ensures ∙ c.in-Some.is) in
    (c.in_ok-serves.ensures.grown c.in-Some.known less).0

pub returns-in_default-2 : goal.returns-in_default-2
returns-in_default-2 c =
    let w = c.args.walk.now in
    let within : c.args.place.step < length w.found.items = omega arith in
    let at = read_at w.found.items c.args.place.step c.index.result.now within c.index.ensures ∙ c.in-Some.is in
    let less = c.requires.there c.args.place.step c.in-Some.known at in
    let grown = grown_on w.stacks c.serves.new.self c.join.new.self c.in_ok-serves.ensures.grown c.in_ok-both.ensures.grown in
    let apart = sym (joined_grown w.stacks c.serves.new.self c.in-Some.known c.args.place.stack c.in_ok-serves.ensures.grown less c.requires.stack) ∙ found_none c.join.new.self _ _ c.in_default-2.is c.in_ok-both.ensures.found in
    came_apart w (record w { stacks = c.join.new.self }) c.args.place.step c.args.place.stack c.in-Some.known (record { grown = grown; found = refl; pending = refl }) c.requires.there at apart

pub returns : goal.returns
returns c =
    let w = c.args.walk.now in
    let within : c.args.place.step < length w.found.items = omega arith in
    let at = read_at w.found.items c.args.place.step c.index.result.now within c.index.ensures ∙ c.in-Some.is in
    let less = c.requires.there c.args.place.step c.in-Some.known at in
    let grown = grown_on w.stacks c.serves.new.self c.join.new.self c.in_ok-serves.ensures.grown c.in_ok-both.ensures.grown in
    let found = found_some c.join.new.self _ c.in-Some-2.both _ c.in-Some-2.is c.in_ok-both.ensures.found in
    let join = sym (joined_grown w.stacks c.serves.new.self c.in-Some.known c.args.place.stack c.in_ok-serves.ensures.grown less c.requires.stack) ∙ found.1 in
    came_fallen w (record w { stacks = c.join.new.self }) c.change-2.new.walk c.args.place.step c.args.place.stack c.in-Some.known c.in-Some-2.both (record { grown = grown; found = refl; pending = refl }) c.requires.there within found.0 at (c.in_ok-serves.ensures.serves ∙ c.if-branch.false) join c.in_ok-change-2.ensures
