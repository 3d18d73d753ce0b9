use Rattle.std.proofs.Common.{◌∙◌, None, Some, sym, ap}
use Rattle.std.specs.Option.{option_copied}
use Rattle.setl_local.proofs.States.{read_content}
use Rattle.setl_local.proofs.fields.Fields.get.Goals as goal

pub returns-in_err-get : goal.returns-in_err-get
returns-in_err-get g c =
    ap option_copied c.from_residual.ensures
    ∙ sym (read_content (c.args.obj, c.args.block) c.self.inside.by_place.entries _ c.self.view_is None (sym c.get.ensures.value ∙ ap option_copied c.in_err-get.was))

pub returns : goal.returns
returns g c =
    c.as_ref.ensures.value
    ∙ sym (read_content (c.args.obj, c.args.block) c.self.inside.by_place.entries _ c.self.view_is (Some c.in_ok-get.field-0.now) (sym c.get.ensures.value ∙ ap option_copied c.in_ok-get.was))
