-- Forth and back.
use Rattle.std.proofs.Common.{◌≡◌, ◌≤◌, ◌+◌, ◌∙◌, ℕ, List, [], ◌∷◌, ◌++◌, ap, ap₂, arith}
use Rattle.setl_debug.specs.Sessions.{Follows, most_turns}
use Rattle.setl_debug_script.specs.declared.command.Command.TheVariants.{On, Back}
use Rattle.setl_debug_target.specs.Screens.{Screen}

pub back_undoes_on : (shows : ℕ → Screen → Type 0) (k n next : ℕ) (told : List ℕ) → k + n ≤ most_turns → Follows shows (On n ∷ Back n ∷ []) k told next → (told ≡ []) × (next ≡ k)
back_undoes_on shows k n next told few f =
    let forth = f.3 in
    let later = f.4 in
    let back = later.3 in
    let end = later.4 in
    (f.5 ∙ ap₂ (λ x y. x ++ y) forth.0 (later.5 ∙ ap₂ (λ x y. x ++ y) back.0 end.0), omega (arith, few, forth.1, back.1, end.1))
