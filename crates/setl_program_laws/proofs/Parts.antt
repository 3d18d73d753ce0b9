-- Lists of expressions, operators, and what stands inside braces and brackets.
use Rattle.std.proofs.Common.{◌≡◌, ◌≤◌, ℕ, suc, true, false, List, [], ◌∷◌, ◌++◌, length, Option, Some, None, refl, sym, ap, ◌∙◌, arith}
use Rattle.setl_tree.specs.declared.expr.BinaryOp.{BinaryOp}
use Rattle.setl_tree.specs.declared.expr.Relation.{Relation}
use Rattle.setl_tree.specs.declared.expr.Prefix.{Prefix}
use Rattle.setl_tree.specs.declared.expr.Quantifier.{Quantifier as QuantifierWord}
use Rattle.setl_tree.specs.declared.expr.Bound.{Bound}
use Rattle.setl_names.specs.Names.{Name as Word, in_order, with_names}
use Rattle.setl_names.specs.Places.{Place, inside_former, with_own}
use Rattle.setl_names.specs.Occurrences as n
use Rattle.setl_names.specs.Occurrences.{Standing, names_of_bound}
use Rattle.setl_operators_table.specs.Operators.{TakesOperands}
use Rattle.setl_program.specs.declared.kinds.Collection.{Collection}
use Rattle.setl_program.specs.declared.kinds.Collection.TheVariants.{OfSet, OfTuple}
use Rattle.setl_program.specs.Program.{Expr}
use Rattle.setl_program.specs.Formed.{number_of, parts_of_source, HasIterator}
use Rattle.setl_program.specs.Lists.{exprs_of, iterators_of}
use Rattle.setl_program.specs.Numbered.{Numbered, pure}
use Rattle.setl_program.specs.Scope.{Scope, in_former, bound_by}
use Rattle.setl_program.specs.Operators.{binary}
use Rattle.setl_program.specs.Expressions as q
use Rattle.setl_program_laws.proofs.Kept.{Kept, first, second}
use Rattle.setl_program_laws.proofs.Fine.{Context, Within, within_former, variable_fine, bound_fine, binding_fine, binds_members, parts_of_binding, Fine, FineList, FineOption, FineTurns, exprs_fine, iterators_fine, condition_fine, fine_apply, fine_choose, fine_former, fine_selection, fine_quantified, fine_name, binary_fine, relation_fine, prefix_fine}
use Rattle.setl_program_laws.proofs.Agreeing.{Makes, Agree, AgreeInside, AgreeTurn, AllAgree, AgreeOption, AgreeOperands, AgreeTurns}

pub count_exprs : (es : List Expr) → number_of (exprs_of es) ≡ length es
count_exprs [] = refl
count_exprs (e ∷ es) = ap suc (count_exprs es)

-- there is an iterator
pub some_iterator : (c : Context) (a : n.Turn) (as_ : List n.Turn) (xs : List q.Turn) → AgreeTurns c (a ∷ as_) xs → (s : Scope) (m : ℕ) → HasIterator (iterators_of (q.iterators xs s m).0)
some_iterator c a as_ (x ∷ xs) h s m = tt
some_iterator c a as_ [] h s m = absurd h

own_iterator : (c : Context) (a : n.Turn) (as_ : List n.Turn) (xs : List q.Turn) → AgreeTurns c (a ∷ as_) xs → (f : ℕ) (seen : List Word) (s : Scope) (m : ℕ) → HasIterator (iterators_of (q.own_iterators f seen xs s m).0)
own_iterator c a as_ (x ∷ xs) h f seen s m = tt
own_iterator c a as_ [] h f seen s m = absurd h

-- ---- operators of braces and brackets, and how many operands they have

enumerates : (k : Collection) (count : ℕ) → TakesOperands (q.enumeration k) count
enumerates OfSet count = tt
enumerates OfTuple count = tt

takes_bounds : (k : Collection) (a : Expr) (b : Option Expr) (d : Expr) → TakesOperands (q.bounded_operator k b) (number_of (exprs_of (q.bounds a b d)))
takes_bounds OfSet a None d = refl
takes_bounds OfSet a (Some b) d = refl
takes_bounds OfTuple a None d = refl
takes_bounds OfTuple a (Some b) d = refl

counts_bounds : (k : Collection) (a : Expr) (b : Option Expr) (d : Expr) → length (q.bounds a b d) ≡ parts_of_source (q.bounded_source k b)
counts_bounds OfSet a None d = refl
counts_bounds OfSet a (Some b) d = refl
counts_bounds OfTuple a None d = refl
counts_bounds OfTuple a (Some b) d = refl

-- formers are counted from 1
counted : (m : ℕ) → 1 ≤ suc m
counted m = omega arith

module _ {c : Context} where
  -- ---- lists of expressions

  pub terms_fine : (as_ : List n.Part) (xs : List q.Part) → AllAgree c as_ xs → Makes c (FineList c) (n.all_parts as_) (q.terms xs)
  terms_fine [] [] h = record { at = λ p k s w m. tt }
  terms_fine (a ∷ as_) (x ∷ xs) h = record {
    at = λ p k s w m. (h.0.term.at p (first (a.standing p) (n.all_parts as_ p) k) s w m, (terms_fine as_ xs h.1).at p (second (a.standing p) (n.all_parts as_ p) k) s w _);
  }
  terms_fine [] (x ∷ xs) h = absurd h
  terms_fine (a ∷ as_) [] h = absurd h

  several_fine : (es : List Expr) → FineList c es → Fine c (q.tuple_of_several es)
  several_fine [] h = fine_apply tt (exprs_fine [] h)
  several_fine (e ∷ []) h = h.0
  several_fine (e ∷ f ∷ es) h = fine_apply tt (exprs_fine (e ∷ f ∷ es) h)

  pub listed_fine : (as_ : List n.Part) (xs : List q.Part) → AllAgree c as_ xs → Makes c (Fine c) (n.all_parts as_) (q.listed xs)
  listed_fine as_ xs h = record { at = λ p k s w m. several_fine (q.terms xs s m).0 ((terms_fine as_ xs h).at p k s w m) }

  pub optional_fine : (a : Option n.Part) (x : Option q.Part) → AgreeOption c a x → Makes c (FineOption c) (n.optional_part a) (q.optional x)
  optional_fine None None h = record { at = λ p k s w m. tt }
  optional_fine (Some a) (Some x) h = record { at = λ p k s w m. h.term.at p k s w m }
  optional_fine None (Some x) h = absurd h
  optional_fine (Some a) None h = absurd h

  -- ---- parts

  pub part_agrees : {st : Standing} {t : Scope → Numbered Expr} → Makes c (Fine c) st t → Agree c (n.unnamed st) (q.part_by t)
  part_agrees h = record {
    term = h;
    source = record { at = λ p k s w m. record { exprs = (h.at p k s w m, tt); count = refl } };
    name = refl;
  }

  pub constant_agrees : {e : Expr} → Fine c e → Agree c (n.unnamed n.none) (q.constant e)
  constant_agrees h = part_agrees (record { at = λ p k s w m. h })

  pub named_fine : (f : Word) (s : Scope) → Within c s → Fine c (q.named f s)
  named_fine f s w = fine_name (variable_fine f w)

  pub named_agrees : (x : Word) → Agree c (record { standing = n.named x; name = Some x }) (record (q.part_by (λ s. pure (q.named x s))) { name = Some x })
  named_agrees x =
      let h = part_agrees {st = n.named x} (record { at = λ p k s w m. named_fine x s w }) in
      record { term = h.term; source = h.source; name = refl }

  pub inside_agrees : (k : Collection) {st : Standing} {x : q.Inside} → AgreeInside c st x → Agree c (n.unnamed st) (q.inside x k)
  inside_agrees k h = record { term = h.term k; source = h.source k; name = refl }

  pub inside_by : {st : Standing} {t : Collection → Scope → Numbered Expr} → ((k : Collection) → Makes c (Fine c) st (t k)) → AgreeInside c st (q.inside_by t)
  inside_by h = record {
    term = h;
    source = λ k. record { at = λ p kept s w m. record { exprs = ((h k).at p kept s w m, tt); count = refl } };
  }

  -- ---- operators

  chain_on_fine : (as_ : List (BinaryOp × n.Part)) (xs : List (BinaryOp × q.Part)) → AgreeOperands c as_ xs → (e : Expr) → Fine c e → Makes c (Fine c) (n.operands as_) (q.chain_on e xs)
  chain_on_fine [] [] h e g = record { at = λ p k s w m. g }
  chain_on_fine (a ∷ as_) (x ∷ xs) h e g = record {
    at = λ p k s w m.
        (chain_on_fine as_ xs h.1 (binary x.0 e (x.1.term s m).0) (binary_fine x.0 g (h.0.term.at p (first (a.1.standing p) (n.operands as_ p) k) s w m))).at p (second (a.1.standing p) (n.operands as_ p) k) s w _;
  }
  chain_on_fine [] (x ∷ xs) h e g = absurd h
  chain_on_fine (a ∷ as_) [] h e g = absurd h

  pub chain_fine : (a : n.Part) (x : q.Part) (as_ : List (BinaryOp × n.Part)) (xs : List (BinaryOp × q.Part)) → Agree c a x → AgreeOperands c as_ xs → Makes c (Fine c) (λ p. a.standing p ++ n.operands as_ p) (q.chain x xs)
  chain_fine a x as_ xs g h = record {
    at = λ p k s w m. (chain_on_fine as_ xs h (x.term s m).0 (g.term.at p (first (a.standing p) (n.operands as_ p) k) s w m)).at p (second (a.standing p) (n.operands as_ p) k) s w _;
  }

  pub comparison_fine : (a b : n.Part) (x y : q.Part) (r : Relation) → Agree c a x → Agree c b y → Makes c (Fine c) (λ p. a.standing p ++ b.standing p) (q.comparison x r y)
  comparison_fine a b x y r g h = record {
    at = λ p k s w m. relation_fine r (g.term.at p (first (a.standing p) (b.standing p) k) s w m) (h.term.at p (second (a.standing p) (b.standing p) k) s w _);
  }

  prefixes_fine : (ps : List Prefix) (e : Expr) → Fine c e → Fine c (q.prefixes ps e)
  prefixes_fine [] e h = h
  prefixes_fine (p ∷ ps) e h = prefix_fine p (prefixes_fine ps e h)

  pub prefixed_fine : (ps : List Prefix) (a : n.Part) (x : q.Part) → Agree c a x → Makes c (Fine c) a.standing (q.prefixed ps x)
  prefixed_fine ps a x h = record { at = λ p k s w m. prefixes_fine ps (x.term s m).0 (h.term.at p k s w m) }

  pub choice_fine : (a b d : n.Part) (x y z : q.Part) → Agree c a x → Agree c b y → Agree c d z → Makes c (Fine c) (λ p. a.standing p ++ (b.standing p ++ d.standing p)) (q.choice x y z)
  choice_fine a b d x y z f g h = record {
    at = λ p k s w m.
        let later = second (a.standing p) (b.standing p ++ d.standing p) k in
        fine_choose (f.term.at p (first (a.standing p) (b.standing p ++ d.standing p) k) s w m) (g.term.at p (first (b.standing p) (d.standing p) later) s w _) (h.term.at p (second (b.standing p) (d.standing p) later) s w _);
  }

  -- ---- iterators

  pub over_agrees : (b : Bound) (a : n.Part) (x : q.Part) → Agree c a x →
      AgreeTurn c (record { names = names_of_bound b; standing = λ own p. n.bound_names own (names_of_bound b) p ++ a.standing p }) (record { names = names_of_bound b; iterator = q.over b x })
  over_agrees b a x h = record {
    iterator = λ own former counted. record {
      at = λ p k s w m.
          let from = (x.source s m).0 in
          let range = h.source.at p (second (n.bound_names own (names_of_bound b) p) (a.standing p) k) s w m in
          record {
            binding = binding_fine b from.0 (bound_by former s) (λ y. bound_fine former y counted w);
            sources = exprs_fine from.1 range.exprs;
            count = count_exprs from.1 ∙ range.count ∙ sym (parts_of_binding b from.0 (bound_by former s));
          };
    };
  }

  pub image_agrees : (y f x : Word) → AgreeTurn c (record { names = y ∷ x ∷ []; standing = λ own p. n.bound_name own y p ++ (n.named f p ++ n.bound_name own x p) }) (record { names = y ∷ x ∷ []; iterator = q.image y f x })
  image_agrees y f x = record {
    iterator = λ own former counted. record {
      at = λ p k s w m.
          let first_bound = bound_fine former y counted w in
          let second_bound = bound_fine former x counted w in
          record {
            binding = record { formed = (first_bound.formed, second_bound.formed); placed = (first_bound.placed, second_bound.placed) };
            sources = exprs_fine (q.named f s ∷ []) (named_fine f s w, tt);
            count = refl;
          };
    };
  }

  variable_turns_fine : (as_ : List n.Turn) (xs : List q.Turn) → AgreeTurns c as_ xs → Makes c (FineTurns c) (n.variable_turns as_) (q.iterators xs)
  variable_turns_fine [] [] h = record { at = λ p k s w m. tt }
  variable_turns_fine (a ∷ as_) (x ∷ xs) h = record {
    at = λ p k s w m. (
      (h.0.iterator false None tt).at p (first (a.standing false p) (n.variable_turns as_ p) k) s w m,
      (variable_turns_fine as_ xs h.1).at p (second (a.standing false p) (n.variable_turns as_ p) k) s w _,
    );
  }
  variable_turns_fine [] (x ∷ xs) h = absurd h
  variable_turns_fine (a ∷ as_) [] h = absurd h

  own_turns_fine : (f : ℕ) (seen : List Word) → 1 ≤ f → (as_ : List n.Turn) (xs : List q.Turn) → AgreeTurns c as_ xs → Makes c (FineTurns c) (n.own_turns as_) (q.own_iterators f seen xs)
  own_turns_fine f seen less [] [] h = record { at = λ p k s w m. tt }
  own_turns_fine f seen less (a ∷ as_) (x ∷ xs) h = record {
    at = λ p k s w m. (
      (h.0.iterator true (Some f) less).at p (first (a.standing true p) (n.own_turns as_ (with_own a.names p)) k) (in_former f seen s) (within_former f seen less w) m,
      (own_turns_fine f (with_names seen x.names) less as_ xs h.1).at (with_own a.names p) (second (a.standing true p) (n.own_turns as_ (with_own a.names p)) k) s w _,
    );
  }
  own_turns_fine f seen less [] (x ∷ xs) h = absurd h
  own_turns_fine f seen less (a ∷ as_) [] h = absurd h

  -- the iterators of a loop or a quantifier
  pub ordinary_turns_fine : (as_ : List n.Turn) (xs : List q.Turn) → AgreeTurns c as_ xs → Makes c (FineTurns c) (n.ordinary_turns as_) (q.iterators xs)
  ordinary_turns_fine as_ xs h = record {
    at = λ p k s w m. (variable_turns_fine as_ xs h).at p (first (n.variable_turns as_ p) (n.bound (n.names_of_turns as_) p) k) s w m;
  }

  pub quantified_fine : (word : QuantifierWord) (i : n.Turn) (is : List n.Turn) (ts : List q.Turn) (a : n.Part) (x : q.Part) → AgreeTurns c (i ∷ is) ts → Agree c a x → Makes c (Fine c) (λ p. n.quantified_turns (i ∷ is) p ++ a.standing p) (q.quantified word ts x)
  quantified_fine word i is ts a x g h = record {
    at = λ p k s w m.
        let turns = second (n.all_quantified (n.names_of_turns (i ∷ is)) p) (n.ordinary_turns (i ∷ is) p) (first (n.quantified_turns (i ∷ is) p) (a.standing p) k) in
        fine_quantified
        (some_iterator c i is ts g s m)
        (iterators_fine (q.iterators ts s m).0 ((ordinary_turns_fine (i ∷ is) ts g).at p turns s w m))
        (h.term.at p (second (n.quantified_turns (i ∷ is) p) (a.standing p) k) s w _);
  }

  -- ---- braces and brackets

  pub enumerated_agrees : (as_ : List n.Part) (xs : List q.Part) → AllAgree c as_ xs → AgreeInside c (n.all_parts as_) (q.inside_by (q.enumerated xs))
  enumerated_agrees as_ xs h = inside_by (λ k. record { at = λ p kept s w m. fine_apply (enumerates k _) (exprs_fine (q.terms xs s m).0 ((terms_fine as_ xs h).at p kept s w m)) })

  bounds_fine : (a : Expr) (b : Option Expr) (d : Expr) → Fine c a → FineOption c b → Fine c d → FineList c (q.bounds a b d)
  bounds_fine a None d f g h = (f, (h, tt))
  bounds_fine a (Some b) d f g h = (f, (g, (h, tt)))

  pub range_agrees : (a d : n.Part) (b : Option n.Part) (x z : q.Part) (y : Option q.Part) → Agree c a x → AgreeOption c b y → Agree c d z →
      AgreeInside c (λ p. a.standing p ++ (n.optional_part b p ++ d.standing p)) (record { term = q.range x y z; source = q.source_range x y z })
  range_agrees a d b x z y f g h = record {
    term = λ k. record { at = λ p kept s w m. fine_apply (takes_bounds k _ _ _) (exprs_fine _ (parts p kept s w m)) };
    source = λ k. record { at = λ p kept s w m. record { exprs = parts p kept s w m; count = counts_bounds k _ _ _ } };
  }
    where
      parts : (p : Place) → Kept c.procs (a.standing p ++ (n.optional_part b p ++ d.standing p)) → (s : Scope) → Within c s → (m : ℕ) →
          FineList c (q.bounds (x.term s m).0 (q.optional y s (x.term s m).1).0 (z.term s (q.optional y s (x.term s m).1).1).0)
      parts p k s w m =
          let later = second (a.standing p) (n.optional_part b p ++ d.standing p) k in
          bounds_fine _ _ _ (f.term.at p (first (a.standing p) (n.optional_part b p ++ d.standing p) k) s w m) ((optional_fine b y g).at p (first (n.optional_part b p) (d.standing p) later) s w _) (h.term.at p (second (n.optional_part b p) (d.standing p) later) s w _)

  pub former_agrees : (a : n.Part) (x : q.Part) (i : n.Turn) (is : List n.Turn) (ts : List q.Turn) (b : Option n.Part) (y : Option q.Part) → Agree c a x → AgreeTurns c (i ∷ is) ts → AgreeOption c b y →
      AgreeInside c (n.former a (i ∷ is) b) (q.inside_by (q.former x ts y))
  former_agrees a x i is ts b y f g h = inside_by (λ k. record {
    at = λ p kept s w m.
        let names = n.names_of_turns (i ∷ is) in
        let within = inside_former names p in
        let last = with_own names within in
        let all = in_order (q.names_of_turns ts) in
        let later = second (a.standing last) (n.own_turns (i ∷ is) within ++ (n.optional_part b last ++ n.bound names within)) kept in
        let there = within_former (suc m) all (counted m) w in
        fine_former
        (own_iterator c i is ts g (suc m) [] s _)
        (f.term.at last (first (a.standing last) (n.own_turns (i ∷ is) within ++ (n.optional_part b last ++ n.bound names within)) kept) (in_former (suc m) all s) there (suc m))
        (iterators_fine _ ((own_turns_fine (suc m) [] (counted m) (i ∷ is) ts g).at within (first (n.own_turns (i ∷ is) within) (n.optional_part b last ++ n.bound names within) later) s w _))
        (condition_fine _ ((optional_fine b y h).at last (first (n.optional_part b last) (n.bound names within) (second (n.own_turns (i ∷ is) within) (n.optional_part b last ++ n.bound names within) later)) (in_former (suc m) all s) there _));
  })

  pub filter_agrees : (b : Bound) (a d : n.Part) (x y : q.Part) → Agree c a x → Agree c d y → AgreeInside c (n.filter (names_of_bound b) a d) (q.inside_by (q.filter b x y))
  filter_agrees b a d x y g h = inside_by (λ k. record {
    at = λ p kept s w m.
        let names = names_of_bound b in
        let within = inside_former names p in
        let last = with_own names within in
        let later = second (n.bound_names true names within) (a.standing within ++ (d.standing last ++ n.bound names within)) kept in
        let from = (x.source s (suc m)).0 in
        let range = g.source.at within (first (a.standing within) (d.standing last ++ n.bound names within) later) s w (suc m) in
        fine_selection
        (binds_members b from.0 (bound_by (Some (suc m)) s))
        (binding_fine b from.0 (bound_by (Some (suc m)) s) (λ z. bound_fine (Some (suc m)) z (counted m) w))
        (exprs_fine from.1 range.exprs)
        (count_exprs from.1 ∙ range.count ∙ sym (parts_of_binding b from.0 (bound_by (Some (suc m)) s)))
        (h.term.at last (first (d.standing last) (n.bound names within) (second (a.standing within) (d.standing last ++ n.bound names within) later)) (in_former (suc m) (in_order names) s) (within_former (suc m) (in_order names) (counted m) w) _);
  })
