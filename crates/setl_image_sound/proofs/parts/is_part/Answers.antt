use Rattle.std.proofs.Common.{List, map, length}
use Rattle.setl_model_runs.specs.Variable.{Global}
use Rattle.setl_code.specs.Plain.{own_variables, plain_code, Variables}
use Rattle.setl_image.specs.Views.{image_of}
use Rattle.setl_image_sound.specs.SoundImage.{declared_of}
use Rattle.setl_image_sound.proofs.Assembling.{refuse, few_tells, takes_tell, last_part}
use Rattle.setl_image_sound.proofs.parts.is_part.Goals as goal

pub returns-then-not-has_few : goal.returns-then-not-has_few
returns-then-not-has_few c = refuse c.has_few.result (few_tells c.args.body.now c.has_few.result c.has_few.ensures) c.if-not-has_few.true (λ part. part.few)

pub is_closed-requires : goal.is_closed-requires
is_closed-requires c = record { few = ((few_tells c.args.body.now c.has_few.result c.has_few.ensures).0 c.if-not-has_few.false).1 }

pub returns-then-not-is_closed : goal.returns-then-not-is_closed
returns-then-not-is_closed c = refuse c.is_closed.result c.is_closed.ensures c.if-not-is_closed.true (λ part. part.closed)

pub returns-then-not-differ : goal.returns-then-not-differ
returns-then-not-differ c = refuse c.in_ok-differ.differ (c.in_ok-differ.ensures c.args.n) c.if-not-differ.true (λ part. part.differ)

pub takes_are_last-requires : goal.takes_are_last-requires
takes_are_last-requires c = record { fits = (length c.args.image.now.code.vars, (c.is_closed.ensures.0 c.if-not-is_closed.false).fits) }

pub returns-then-not-last : goal.returns-then-not-last
returns-then-not-last c =
    refuse c.in_ok-last.last
    (takes_tell (image_of c.args.image.now) c.args.n c.args.body.now c.args.table.now c.in_ok-last.last (c.in_ok-last.ensures (declared_of (image_of c.args.image.now)) c.args.image.now.code.vars) c.requires.table
    ((c.in_ok-differ.ensures c.args.n).0 c.if-not-differ.false) (c.is_closed.ensures.0 c.if-not-is_closed.false).fits)
    c.if-not-last.true (λ part. part.takes)

pub has_heights-requires : goal.has_heights-requires
has_heights-requires c = record { few = ((few_tells c.args.body.now c.has_few.result c.has_few.ensures).0 c.if-not-has_few.false).0 }

pub returns-then-not-falls : goal.returns-then-not-falls
returns-then-not-falls c = refuse c.in_ok-falls.falls (c.in_ok-falls.ensures (record { global = map Global c.args.image.now.code.vars; own = own_variables c.args.n c.args.body.now.parameters c.args.body.now.names })) c.if-not-falls.true (λ part. part.falls)

pub has_table-requires : goal.has_table-requires
has_table-requires c = record { few = ((few_tells c.args.body.now c.has_few.result c.has_few.ensures).0 c.if-not-has_few.false).0 }

pub returns : goal.returns
returns c =
    let xs : Variables = record { global = map Global c.args.image.now.code.vars; own = own_variables c.args.n c.args.body.now.parameters c.args.body.now.names } in
    let few = (few_tells c.args.body.now c.has_few.result c.has_few.ensures).0 c.if-not-has_few.false in
    let closed = c.is_closed.ensures.0 c.if-not-is_closed.false in
    let differ = (c.in_ok-differ.ensures c.args.n).0 c.if-not-differ.false in
    let last = (takes_tell (image_of c.args.image.now) c.args.n c.args.body.now c.args.table.now c.in_ok-last.last (c.in_ok-last.ensures (declared_of (image_of c.args.image.now)) c.args.image.now.code.vars) c.requires.table differ closed.fits).0 c.if-not-last.false in
    let falls = (c.in_ok-falls.ensures xs).0 c.if-not-falls.false in
    last_part c.has_table.result c.args.image.now.code (declared_of (image_of c.args.image.now)) c.args.n c.args.body.now few closed differ last falls (c.has_table.ensures (plain_code c.args.image.now.code).bodies xs c.requires.calls)
