use Rattle.std.proofs.Common.{◌∙◌, sym, subst}
use Rattle.setl_modes.specs.Modes.{mode_of}
use Rattle.setl_modes_same.specs.Same.{mode_is}
use Rattle.setl_rep_bases.specs.BaseId.{main}
use Rattle.setl_rep_building.specs.HasForm.{HasFormOrOm}
use Rattle.setl_rep_forms.specs.FormOf.{form}
use Rattle.setl_store_layout.proofs.variables.push_based.Goals as goal

pub push_variable-requires-clause-form : goal.push_variable-requires-clause-form
push_variable-requires-clause-form c =
    subst (λ m. HasFormOrOm main m (form c.args.held.now)) (mode_is (mode_of c.args.own.now) (mode_of c.args.mode.now) (sym c.same_mode.ensures ∙ c.if-same_mode.true)) c.requires.form
