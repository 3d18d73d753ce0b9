use Rattle.std.proofs.Common.{◌∙◌, None, Some, sym, ap}
use Rattle.std.specs.Option.{option_copied}
use Rattle.setl_local.proofs.States.{read_bit}
use Rattle.setl_local.proofs.fields.Fields.test.Goals as goal

pub returns-in-Some : goal.returns-in-Some
returns-in-Some g c =
    sym (read_bit (c.args.obj, c.args.block) c.self.inside.by_place.entries _ c.self.view_is (Some c.in-Some.field.now) (sym c.get.ensures.value ∙ ap option_copied c.in-Some.is))

pub returns-in-None : goal.returns-in-None
returns-in-None g c =
    sym (read_bit (c.args.obj, c.args.block) c.self.inside.by_place.entries _ c.self.view_is None (sym c.get.ensures.value ∙ ap option_copied c.in-None.is))
