-- What stands in a part of a tree, beside what the part becomes: where the first breaks no rule, the second is fine.
use Rattle.std.proofs.Common.{◌≡◌, ℕ, Bool, List, [], ◌∷◌, Option, Some, None, sym, subst₂}
use Rattle.setl_tree.specs.declared.expr.BinaryOp.{BinaryOp}
use Rattle.setl_names.specs.declared.occurrence.Occurrence.{Occurrence}
use Rattle.setl_names.specs.Places.{Place}
use Rattle.setl_names.specs.Occurrences as n
use Rattle.setl_names.specs.Occurrences.{Standing}
use Rattle.setl_program.specs.declared.kinds.Collection.{Collection}
use Rattle.setl_program.specs.Program.{Expr, Selectors}
use Rattle.setl_program.specs.Scope.{Scope}
use Rattle.setl_program.specs.Expressions as q
use Rattle.setl_program_laws.proofs.Kept.{Kept}
use Rattle.setl_program_laws.proofs.Fine.{Context, Within, IsCounted, Fine, FineRange, FineTurn, FineSelectors}

-- what holds of two values holds of those that equal them
pub carried : {A B : Type 0} (R : A → B → Type 0) {a d : A} {b e : B} → a ≡ d → b ≡ e → R d e → R a b
carried R p q h = subst₂ R (sym p) (sym q) h

module _ (c : Context) where
  -- where this is kept, what is made in each scope of the body is so
  pub record Makes {A : Type 0} (P : A → Type 0) (st : Place → List Occurrence) (t : Scope → ℕ → A × ℕ) : Type 0 where
    pub at : (p : Place) → Kept c.procs (st p) → (s : Scope) → Within c s → (m : ℕ) → P (t s m).0

  pub record Agree (a : n.Part) (x : q.Part) : Type 0 where
    pub term : Makes (Fine c) a.standing x.term
    pub source : Makes (FineRange c) a.standing x.source
    pub name : a.name ≡ x.name

  pub record AgreeInside (a : Place → List Occurrence) (x : q.Inside) : Type 0 where
    pub term : (k : Collection) → Makes (Fine c) a (x.term k)
    pub source : (k : Collection) → Makes (FineRange c) a (x.source k)

  pub record AgreeTurn (a : n.Turn) (x : q.Turn) : Type 0 where
    pub iterator : (own : Bool) (former : Option ℕ) → IsCounted former → Makes (FineTurn c) (a.standing own) (x.iterator former)

  abbrev pub AllAgree : List n.Part → List q.Part → Type 0
  AllAgree [] [] = Unit {0}
  AllAgree (a ∷ as_) (x ∷ xs) = Agree a x × AllAgree as_ xs
  AllAgree as_ xs = ⊥

  abbrev pub AgreeOption : Option n.Part → Option q.Part → Type 0
  AgreeOption None None = Unit {0}
  AgreeOption (Some a) (Some x) = Agree a x
  AgreeOption a x = ⊥

  abbrev pub AgreeLists : Option (List n.Part) → Option (List q.Part) → Type 0
  AgreeLists None None = Unit {0}
  AgreeLists (Some as_) (Some xs) = AllAgree as_ xs
  AgreeLists a x = ⊥

  abbrev pub AgreeOperands : List (BinaryOp × n.Part) → List (BinaryOp × q.Part) → Type 0
  AgreeOperands [] [] = Unit {0}
  AgreeOperands (a ∷ as_) (x ∷ xs) = Agree a.1 x.1 × AgreeOperands as_ xs
  AgreeOperands as_ xs = ⊥

  abbrev pub AgreeTurns : List n.Turn → List q.Turn → Type 0
  AgreeTurns [] [] = Unit {0}
  AgreeTurns (a ∷ as_) (x ∷ xs) = AgreeTurn a x × AgreeTurns as_ xs
  AgreeTurns as_ xs = ⊥

  -- a selector of a place, before the others
  pub record FineBefore (f : Selectors → Selectors) : Type 0 where
    pub before : (rest : Selectors) → FineSelectors c rest → FineSelectors c (f rest)

  pub record AgreeBehind (a : n.Behind) (x : q.Behind) : Type 0 where
    pub applied : (e : Expr) → Fine c e → Makes (Fine c) a.standing (x.applied e)
    pub selector : Makes FineBefore a.standing x.selector
    pub list : AgreeLists a.list x.list

  abbrev pub AllBehind : List n.Behind → List q.Behind → Type 0
  AllBehind [] [] = Unit {0}
  AllBehind (a ∷ as_) (x ∷ xs) = AgreeBehind a x × AllBehind as_ xs
  AllBehind as_ xs = ⊥
