use Rattle.std.proofs.Common.{sym, subst}
use Rattle.setl_modes.specs.Modes.{mode_of}
use Rattle.setl_rep_forms.specs.FormOf.{form}
use Rattle.setl_rep_forms.specs.Stands.{stands}
use Rattle.setl_rep_updates.specs.Changed.{given_by}
use Rattle.setl_rep_updates.specs.Updates.{IsUpdate}
use Rattle.setl_rep_updates.proofs.updating.update.Goals as goal

pub returns-in-Less-clause-update : goal.returns-in-Less-clause-update
returns-in-Less-clause-update c =
    let m = mode_of c.args.mode.now in
    let n = c.args.instance in
    let bs = c.args.bases.now in
    let f = form c.args.held.now in
    subst (λ k. IsUpdate m n (given_by k (stands bs f)) bs bs f (form c.exclude.new.s) c.exclude.result) (sym c.in-Less.is) (c.exclude.ensures.update m n c.requires)

pub returns-in-Lessf-clause-update : goal.returns-in-Lessf-clause-update
returns-in-Lessf-clause-update c =
    let m = mode_of c.args.mode.now in
    let n = c.args.instance in
    let bs = c.args.bases.now in
    let f = form c.args.held.now in
    subst (λ k. IsUpdate m n (given_by k (stands bs f)) bs bs f (form c.cut.new.f) c.cut.result) (sym c.in-Lessf.is) (c.cut.ensures.lessf m n c.requires)

pub returns-in-LessImage-clause-update : goal.returns-in-LessImage-clause-update
returns-in-LessImage-clause-update c =
    let m = mode_of c.args.mode.now in
    let n = c.args.instance in
    let bs = c.args.bases.now in
    let f = form c.args.held.now in
    subst (λ k. IsUpdate m n (given_by k (stands bs f)) bs bs f (form c.exclude_image.new.f) c.exclude_image.result) (sym c.in-LessImage.is) (c.exclude_image.ensures.update n c.requires)
