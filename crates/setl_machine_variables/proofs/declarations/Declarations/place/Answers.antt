use Rattle.std.proofs.Common.{◌∙◌, ap}
use Rattle.std.specs.Prelude.{slice_get}
use Rattle.std.specs.Option.{option_flatten}
use Rattle.setl_machine_variables.proofs.Places.{global_at, own_at, other_at}
use Rattle.setl_machine_variables.proofs.declarations.Declarations.place.Goals as goal

pub returns-in-Global : goal.returns-in-Global
returns-in-Global c =
    let i = c.self.inside in
    global_at c.args.self.now i.code.now i.declared.now i.globals.items i.own.items c.args.store.now c.body-body.result c.in-Global.k c.args.slot c.place_at.result c.self.view_is c.requires c.self.invariant c.body-body.ensures.variables c.in-Global.is
    (c.place_at.ensures ∙ ap (λ xs. option_flatten (slice_get xs c.in-Global.k)) c.as_slice.ensures.value)

pub returns-then-body-eq0 : goal.returns-then-body-eq0
returns-then-body-eq0 c =
    let i = c.self.inside in
    own_at c.args.self.now i.code.now i.declared.now i.globals.items i.own.items c.args.store.now c.body-body.result c.in-Own.k c.args.slot c.place_at-then-body-eq0.result c.self.view_is c.requires c.self.invariant c.body-body.ensures.variables c.if-body-eq0.true c.in-Own.is
    (c.place_at-then-body-eq0.ensures ∙ ap (λ xs. option_flatten (slice_get xs c.in-Own.k)) c.as_slice-then-body-eq0.ensures.value)

pub returns-else-body-eq0 : goal.returns-else-body-eq0
returns-else-body-eq0 c =
    let i = c.self.inside in
    other_at c.args.self.now i.code.now i.declared.now c.args.store.now c.body-body.result c.in-Own.k c.args.slot c.self.view_is c.requires c.body-body.ensures.variables c.if-body-eq0.false c.in-Own.is
