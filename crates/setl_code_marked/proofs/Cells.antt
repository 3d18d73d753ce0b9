-- Writes keep cells alike, and what is read is the same.
use Rattle.std.proofs.Common.{◌≡◌, ℕ, Bool, true, false, List, [], ◌∷◌, inl, inr, Option, refl, ap, subst}
use Rattle.std.specs.Prelude.{◌&&◌, ◌||◌}
use Rattle.setl_model_runs.specs.Variable.{Variable, Global, Own, Bound, is_variable}
use Rattle.setl_model_runs.specs.VariableLaws.{variable_itself}
use Rattle.setl_model_runs.specs.Run.{Store}
use Rattle.setl_tree.specs.declared.tree.Passing.{Passing}
use Rattle.setl_tree.specs.declared.tree.Passing.TheVariants.{Rd, Wr, Rw}
use Rattle.setl_program.specs.Program.{Parameter}
use Rattle.setl_model.specs.Calls.{parameter}
use Rattle.setl_code.specs.CodeCore.{Held, There, Gone, Cells, held_in, with_held, Operand, Activation, Copy, CodeCore, write}
use Rattle.setl_code.specs.CellLaws.{held_after}
use Rattle.setl_code.specs.Machine.{hand, handed_back}
use Rattle.setl_code.specs.Sound.{is_back, is_handed}
use Rattle.setl_code_marked.specs.Alike.{SameOrGone, AlikeCells, AlikeActivation, AlikeActivations, AlikeCopies, AlikeCore}

-- ---- cells

-- a write on both sides makes that variable the same
pub written : (lacks : Variable → Type 0) (x : Variable) (h : Held) (own marked : Cells) → ((y : Variable) → is_variable x y ≡ false → SameOrGone (lacks y) (held_in own y) (held_in marked y)) → AlikeCells lacks (with_held own x h) (with_held marked x h)
written lacks x h own marked others y = go (is_variable x y) refl
  where
    go : (b : Bool) → is_variable x y ≡ b → SameOrGone (lacks y) (held_in (with_held own x h) y) (held_in (with_held marked x h) y)
    go true same = rw (held_after own x h y, held_after marked x h y, same) (inl refl)
    go false other = rw (held_after own x h y, held_after marked x h y, other) (others y other)

-- a take on the marked side alone
pub taken : (lacks : Variable → Type 0) (x : Variable) (own marked : Cells) → lacks x → ((y : Variable) → is_variable x y ≡ true → x ≡ y) → ((y : Variable) → SameOrGone (lacks y) (held_in own y) (held_in marked y)) → AlikeCells lacks own (with_held marked x Gone)
taken lacks x own marked may one others y = go (is_variable x y) refl
  where
    go : (b : Bool) → is_variable x y ≡ b → SameOrGone (lacks y) (held_in own y) (held_in (with_held marked x Gone) y)
    go true same = rw (held_after marked x Gone y, same) (inr (refl, subst lacks (one y same) may))
    go false other = rw (held_after marked x Gone y, other) (others y)

-- ---- parts that lack less

module _ (lacks : ℕ → ℕ → Variable → Type 0) (more : ℕ → ℕ → Variable → Type 0) (weaker : (n at : ℕ) (x : Variable) → lacks n at x → more n at x) where
  pub weak_cell : (n at : ℕ) (x : Variable) (h g : Held) → SameOrGone (lacks n at x) h g → SameOrGone (more n at x) h g
  weak_cell n at x h g (inl same) = inl same
  weak_cell n at x h g (inr both) = inr (both.0, weaker n at x both.1)

  pub weak_cells : (n at : ℕ) (own marked : Cells) → AlikeCells (lacks n at) own marked → AlikeCells (more n at) own marked
  weak_cells n at own marked all x = weak_cell n at x (held_in own x) (held_in marked x) (all x)

  pub weak_activation : (a m : Activation) → AlikeActivation lacks a m → AlikeActivation more a m
  weak_activation a m h = record { same = h.same; own = weak_cells a.body a.at a.own m.own h.own }

  pub weak_activations : (acts ms : List Activation) → AlikeActivations lacks acts ms → AlikeActivations more acts ms
  weak_activations [] [] h = tt
  weak_activations (a ∷ acts) (m ∷ ms) h = (weak_activation a m h.0, weak_activations acts ms h.1)
  weak_activations [] (m ∷ ms) h = absurd h
  weak_activations (a ∷ acts) [] h = absurd h

  pub weak_copies : (cs ms : List Copy) → AlikeCopies lacks cs ms → AlikeCopies more cs ms
  weak_copies [] [] h = tt
  weak_copies (c ∷ cs) (m ∷ ms) h = (record { globals = h.0.globals; now = weak_activation c.now m.now h.0.now; callers = weak_activations c.callers m.callers h.0.callers }, weak_copies cs ms h.1)
  weak_copies [] (m ∷ ms) h = absurd h
  weak_copies (c ∷ cs) [] h = absurd h

  pub weak_core : (k m : CodeCore) → AlikeCore lacks k m → AlikeCore more k m
  weak_core k m h = record { globals = h.globals; world = h.world; now = weak_activation k.now m.now h.now; callers = weak_activations k.callers m.callers h.callers; kept = weak_copies k.kept m.kept h.kept }

-- ---- stores

-- the core after all stores of a move
abbrev pub with_stores : List Store → CodeCore → CodeCore
with_stores [] k = k
with_stores (x ∷ xs) k = with_stores xs (write x.0 (There x.1) k)

module _ (lacks : ℕ → ℕ → Variable → Type 0) where
  own_kept : (x : Variable) (h : Held) (a m : Activation) → AlikeActivation lacks a m → AlikeActivation lacks (record a { own = with_held a.own x h }) (record m { own = with_held m.own x h })
  own_kept x h a m all = record {
    same = ap (λ (b : Activation). record b { own = with_held m.own x h }) all.same;
    own = written (lacks a.body a.at) x h a.own m.own (λ y other. all.own y);
  }

  pub write_kept : (x : Variable) (h : Held) (k m : CodeCore) → AlikeCore lacks k m → AlikeCore lacks (write x h k) (write x h m)
  write_kept (Global name) h k m all = record { globals = ap (λ g. with_held g (Global name) h) all.globals; world = all.world; now = all.now; callers = all.callers; kept = all.kept }
  write_kept (Own body name) h k m all = record { globals = all.globals; world = all.world; now = own_kept (Own body name) h k.now m.now all.now; callers = all.callers; kept = all.kept }
  write_kept (Bound former name) h k m all = record { globals = all.globals; world = all.world; now = own_kept (Bound former name) h k.now m.now all.now; callers = all.callers; kept = all.kept }

  pub stores_kept : (xs : List Store) (k m : CodeCore) → AlikeCore lacks k m → AlikeCore lacks (with_stores xs k) (with_stores xs m)
  stores_kept [] k m all = all
  stores_kept (x ∷ xs) k m all = stores_kept xs (write x.0 (There x.1) k) (write x.0 (There x.1) m) (write_kept x.0 (There x.1) k m all)

-- ---- what a return hands back

either : (a b : Bool) → (a ≡ true → a || b ≡ true) × (b ≡ true → a || b ≡ true)
either true b = (λ h. refl, λ h. refl)
either false b = (λ h. absurd (no h), λ h. h)
  where
    no : false ≡ true → ⊥
    no h = cc

hand_same : (p : Passing) (h g : Held) (rest others : Option (List Operand)) → (is_back p ≡ true → g ≡ h) → others ≡ rest → hand p g others ≡ hand p h rest
hand_same Rd h g rest others same e = e
hand_same Wr h g rest others same e = rw (same refl, e) refl
hand_same Rw h g rest others same e = rw (same refl, e) refl

pub handed_same : (n : ℕ) (ps : List Parameter) (own marked : Cells) (xs : List Operand) → ((x : Variable) → is_handed n ps x ≡ true → held_in marked x ≡ held_in own x) → handed_back n ps marked xs ≡ handed_back n ps own xs
handed_same n [] own marked xs same = refl
handed_same n (p ∷ ps) own marked xs same =
    hand_same p.passing (held_in own (parameter n p)) (held_in marked (parameter n p)) (handed_back n ps own xs) (handed_back n ps marked xs)
    (λ back. same (parameter n p) ((either (is_back p.passing && is_variable (parameter n p) (parameter n p)) (is_handed n ps (parameter n p))).0 (rw (back, variable_itself (parameter n p)) refl)))
    (handed_same n ps own marked xs (λ x h. same x ((either (is_back p.passing && is_variable (parameter n p) x) (is_handed n ps x)).1 h)))
