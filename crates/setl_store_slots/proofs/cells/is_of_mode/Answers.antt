use Rattle.std.proofs.Common.{◌≡◌, ◌∙◌, true, ap, sym, subst}
use Rattle.setl_modes.specs.Modes.{mode_of}
use Rattle.setl_modes_same.specs.Same.{same_mode, mode_is}
use Rattle.setl_store_slots.specs.Updates.{IsOfMode}
use Rattle.setl_store_slots.proofs.cells.is_of_mode.Goals as goal

pub returns-in-Based : goal.returns-in-Based
returns-in-Based c t =
    let m = mode_of c.args.mode.now in
    let same : same_mode (mode_of c.in-Based.own) m ≡ true = ap (λ k. same_mode (mode_of k) m) (sym c.get.ensures) ∙ sym c.same_mode.ensures ∙ t in
    subst (IsOfMode m) (sym c.in-Based.is) (mode_is (mode_of c.in-Based.own) m same)
