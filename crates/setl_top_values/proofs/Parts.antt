-- What the forms of expressions become has values for literals, where their parts do.
use Rattle.std.proofs.Common.{ℕ, suc, List, [], ◌∷◌, Option, Some, None}
use Rattle.setl_tree.specs.declared.expr.BinaryOp.{BinaryOp}
use Rattle.setl_tree.specs.declared.expr.Relation.{Relation}
use Rattle.setl_tree.specs.declared.expr.Prefix.{Prefix}
use Rattle.setl_tree.specs.declared.expr.Quantifier.{Quantifier as QuantifierWord}
use Rattle.setl_tree.specs.declared.expr.Bound.{Bound}
use Rattle.setl_names.specs.Names.{Name as Word, with_names}
use Rattle.setl_names.specs.Occurrences.{names_of_bound}
use Rattle.setl_program.specs.declared.kinds.Collection.{Collection}
use Rattle.setl_program.specs.Program.{Expr}
use Rattle.setl_program.specs.Numbered.{Numbered}
use Rattle.setl_program.specs.Scope.{Scope, in_former}
use Rattle.setl_program.specs.Operators.{binary}
use Rattle.setl_program.specs.Expressions as q
use Rattle.setl_top_values.proofs.Languages.{Each, Maybe}
use Rattle.setl_top_values.proofs.Standing.{ExprStands, TurnStands, BeforeSelectors, exprs_stand, iterators_stand, binary_stands, prefixes_stand}

-- what is made in each scope is so
pub record Makes {A : Type 0} (P : A → Type 0) (t : Scope → ℕ → A × ℕ) : Type 0 where
  pub at : (s : Scope) (m : ℕ) → P (t s m).0

abbrev pub RangeStands : q.Range → Type 0
RangeStands r = Each ExprStands r.1

pub record PartStands (x : q.Part) : Type 0 where
  pub term : Makes ExprStands x.term
  pub source : Makes RangeStands x.source

pub record InsideStands (x : q.Inside) : Type 0 where
  pub term : (k : Collection) → Makes ExprStands (x.term k)
  pub source : (k : Collection) → Makes RangeStands (x.source k)

pub record IterStands (x : q.Turn) : Type 0 where
  pub iterator : (former : Option ℕ) → Makes TurnStands (x.iterator former)

abbrev pub ListStands : Option (List q.Part) → Type 0
ListStands None = Unit {0}
ListStands (Some xs) = Each PartStands xs

pub record BehindStands (x : q.Behind) : Type 0 where
  pub applied : (e : Expr) → ExprStands e → Makes ExprStands (x.applied e)
  pub selector : Makes BeforeSelectors x.selector
  pub list : ListStands x.list

-- ---- lists of expressions

pub terms_stand : (xs : List q.Part) → Each PartStands xs → Makes (Each ExprStands) (q.terms xs)
terms_stand [] h = record { at = λ s m. tt }
terms_stand (x ∷ xs) h = record { at = λ s m. (h.0.term.at s m, (terms_stand xs h.1).at s _) }

several_stand : (es : List Expr) → Each ExprStands es → ExprStands (q.tuple_of_several es)
several_stand [] h = tt
several_stand (e ∷ []) h = h.0
several_stand (e ∷ f ∷ es) h = exprs_stand (e ∷ f ∷ es) h

pub listed_stands : (xs : List q.Part) → Each PartStands xs → Makes ExprStands (q.listed xs)
listed_stands xs h = record { at = λ s m. several_stand (q.terms xs s m).0 ((terms_stand xs h).at s m) }

pub optional_stands : (x : Option q.Part) → Maybe PartStands x → Makes (Maybe ExprStands) (q.optional x)
optional_stands None h = record { at = λ s m. tt }
optional_stands (Some x) h = record { at = λ s m. h.term.at s m }

-- ---- parts

pub by_term : (t : Scope → Numbered Expr) → Makes ExprStands t → PartStands (q.part_by t)
by_term t h = record { term = h; source = record { at = λ s m. (h.at s m, tt) } }

pub constant_stands : (e : Expr) → ExprStands e → PartStands (q.constant e)
constant_stands e h = by_term (λ s m. (e, m)) (record { at = λ s m. h })

pub name_stands : (x : Word) → PartStands (record (q.part_by (λ s m. (q.named x s, m))) { name = Some x })
name_stands x = record { term = record { at = λ s m. tt }; source = record { at = λ s m. (tt, tt) } }

pub inside_stands : (x : q.Inside) (k : Collection) → InsideStands x → PartStands (q.inside x k)
inside_stands x k h = record { term = h.term k; source = h.source k }

inside_by : (t : Collection → Scope → Numbered Expr) → ((k : Collection) → Makes ExprStands (t k)) → InsideStands (q.inside_by t)
inside_by t h = record { term = h; source = λ k. record { at = λ s m. ((h k).at s m, tt) } }

-- ---- operators

chain_on_stands : (xs : List (BinaryOp × q.Part)) → Each (λ p. PartStands p.1) xs → (e : Expr) → ExprStands e → Makes ExprStands (q.chain_on e xs)
chain_on_stands [] h e g = record { at = λ s m. g }
chain_on_stands (x ∷ xs) h e g = record {
  at = λ s m. (chain_on_stands xs h.1 (binary x.0 e (x.1.term s m).0) (binary_stands x.0 e (x.1.term s m).0 g (h.0.term.at s m))).at s _;
}

pub chain_stands : (x : q.Part) (xs : List (BinaryOp × q.Part)) → PartStands x → Each (λ p. PartStands p.1) xs → PartStands (q.part_by (q.chain x xs))
chain_stands x xs g h = by_term (q.chain x xs) (record { at = λ s m. (chain_on_stands xs h (x.term s m).0 (g.term.at s m)).at s _ })

pub comparison_stands : (a : q.Part) (r : Relation) (b : q.Part) → PartStands a → PartStands b → PartStands (q.part_by (q.comparison a r b))
comparison_stands a r b g h = by_term (q.comparison a r b) (record { at = λ s m. (g.term.at s m, (h.term.at s _, tt)) })

pub prefixed_stands : (ps : List Prefix) (x : q.Part) → PartStands x → PartStands (q.part_by (q.prefixed ps x))
prefixed_stands ps x h = by_term (q.prefixed ps x) (record { at = λ s m. prefixes_stand ps (x.term s m).0 (h.term.at s m) })

pub choice_stands : (a b c : q.Part) → PartStands a → PartStands b → PartStands c → PartStands (q.part_by (q.choice a b c))
choice_stands a b c f g h = by_term (q.choice a b c) (record { at = λ s m. (f.term.at s m, g.term.at s _, h.term.at s _) })

-- ---- iterators

pub over_stands : (b : Bound) (x : q.Part) → PartStands x → IterStands (record { names = names_of_bound b; iterator = q.over b x })
over_stands b x h = record { iterator = λ former. record { at = λ s m. exprs_stand (x.source s m).0.1 (h.source.at s m) } }

pub image_stands : (y f x : Word) → IterStands (record { names = y ∷ x ∷ []; iterator = q.image y f x })
image_stands y f x = record { iterator = λ former. record { at = λ s m. (tt, tt) } }

pub turns_stand : (ts : List q.Turn) → Each IterStands ts → Makes (Each TurnStands) (q.iterators ts)
turns_stand [] h = record { at = λ s m. tt }
turns_stand (t ∷ ts) h = record { at = λ s m. ((h.0.iterator None).at s m, (turns_stand ts h.1).at s _) }

own_turns_stand : (f : ℕ) (seen : List Word) (ts : List q.Turn) → Each IterStands ts → Makes (Each TurnStands) (q.own_iterators f seen ts)
own_turns_stand f seen [] h = record { at = λ s m. tt }
own_turns_stand f seen (t ∷ ts) h = record {
  at = λ s m. ((h.0.iterator (Some f)).at (in_former f seen s) m, (own_turns_stand f (with_names seen t.names) ts h.1).at s _);
}

pub quantified_stands : (w : QuantifierWord) (ts : List q.Turn) (x : q.Part) → Each IterStands ts → PartStands x → PartStands (q.part_by (q.quantified w ts x))
quantified_stands w ts x g h = by_term (q.quantified w ts x) (record { at = λ s m. (iterators_stand (q.iterators ts s m).0 ((turns_stand ts g).at s m), h.term.at s _) })

-- ---- braces and brackets

pub enumerated_stands : (xs : List q.Part) → Each PartStands xs → InsideStands (q.inside_by (q.enumerated xs))
enumerated_stands xs h = inside_by (q.enumerated xs) (λ k. record { at = λ s m. exprs_stand (q.terms xs s m).0 ((terms_stand xs h).at s m) })

bounds_stand : (a : Expr) (b : Option Expr) (c : Expr) → ExprStands a → Maybe ExprStands b → ExprStands c → Each ExprStands (q.bounds a b c)
bounds_stand a None c f g h = (f, (h, tt))
bounds_stand a (Some b) c f g h = (f, (g, (h, tt)))

pub range_stands : (a : q.Part) (b : Option q.Part) (c : q.Part) → PartStands a → Maybe PartStands b → PartStands c → InsideStands (record { term = q.range a b c; source = q.source_range a b c })
range_stands a b c f g h = record {
  term = λ k. record { at = λ s m. exprs_stand (q.bounds _ _ _) (bounds_stand _ _ _ (f.term.at s m) ((optional_stands b g).at s _) (h.term.at s _)) };
  source = λ k. record { at = λ s m. bounds_stand _ _ _ (f.term.at s m) ((optional_stands b g).at s _) (h.term.at s _) };
}

pub former_stands : (x : q.Part) (ts : List q.Turn) (c : Option q.Part) → PartStands x → Each IterStands ts → Maybe PartStands c → InsideStands (q.inside_by (q.former x ts c))
former_stands x ts None f g h = inside_by (q.former x ts None) (λ k. record {
  at = λ s m. (f.term.at _ _, iterators_stand _ ((own_turns_stand (suc m) [] ts g).at s _), tt);
})
former_stands x ts (Some c) f g h = inside_by (q.former x ts (Some c)) (λ k. record {
  at = λ s m. (f.term.at _ _, iterators_stand _ ((own_turns_stand (suc m) [] ts g).at s _), h.term.at _ _);
})

pub filter_stands : (b : Bound) (x c : q.Part) → PartStands x → PartStands c → InsideStands (q.inside_by (q.filter b x c))
filter_stands b x c g h = inside_by (q.filter b x c) (λ k. record { at = λ s m. (exprs_stand _ (g.source.at s (suc m)), h.term.at _ _) })
