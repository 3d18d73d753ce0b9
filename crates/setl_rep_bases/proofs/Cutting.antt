-- What is there after a cut to marks.
use Rattle.std.proofs.Common.{◌≡◌, ◌∙◌, ℕ, zero, suc, ◌<◌, ◌≤◌, Bool, true, false, cond, List, [], ◌∷◌, length, map, take, slice_get, Option, None, Some, refl, sym, ap, subst, arith}
use Rattle.std.proofs.lemmas.Bool.{false≢true}
use Rattle.std.proofs.lemmas.List.{take_all}
use Rattle.std.specs.Prelude.{IsSome}
use Rattle.std.specs.Cmp.{Equal-is}
use Rattle.std.specs.Ordering.{eq_by_cmp}
use Rattle.std.specs.Option.{option_map, option_map_or, unwrap_or}
use Rattle.std.specs.FinMap as finmap
use Rattle.setl_base.specs.Base.{BaseState, Member, empty, member_at}
use Rattle.setl_rep_bases.specs.declared.BaseId.{BaseId}
use Rattle.setl_rep_bases.specs.declared.marks.Mark.{Mark}
use Rattle.setl_rep_bases.specs.declared.tables.Instance.{Instance}
use Rattle.setl_rep_bases.specs.BaseId.{id_cmp}
use Rattle.setl_rep_bases.specs.Bases.{instance_at, base_at}
use Rattle.setl_rep_bases.specs.Tables.{brought}
use Rattle.setl_rep_bases.specs.Marks.{Marks, mark_of, marks_of, as_marked, as_cut, marked, cut_all, back_all}
use Rattle.setl_rep_bases.specs.Cutting.{MarksAreRead, CutsAreRead, CountedCutsAreRead, NothingIsCut, GrownBasesAreCutAlike, CountedCutsLeaveTheSame, CutBlocksWereThere}
use Rattle.setl_rep_bases.proofs.Ids.{id_total, same_id}

same_name : (i j : BaseId) → eq_by_cmp id_cmp i j ≡ true → i ≡ j
same_name i j e = same_id i j ((Equal-is (id_cmp i j)).0 e)

some_same : {A : Type 0} (x y : A) → Some x ≡ Some y → x ≡ y
some_same x y e = ap (λ o. unwrap_or o x) e

-- ---- what is read

mapped_by : (b : Bool) (x : Instance) (o : Option Mark) (p : Option Instance) → o ≡ option_map mark_of p → cond b (Some (mark_of x)) o ≡ option_map mark_of (cond b (Some x) p)
mapped_by true x o p e = refl
mapped_by false x o p e = e

found_mapped : (j : BaseId) (es : List (BaseId × Instance)) → finmap.find id_cmp j (map (λ e. (e.0, mark_of e.1)) es) ≡ option_map mark_of (finmap.find id_cmp j es)
found_mapped j [] = refl
found_mapped j (e ∷ es) = mapped_by (eq_by_cmp id_cmp j e.0) e.1 (finmap.find id_cmp j (map (λ d. (d.0, mark_of d.1)) es)) (finmap.find id_cmp j es) (found_mapped j es)

pub marks_are_read : MarksAreRead
marks_are_read bs i =
    finmap.get-from_entries id_total (map (λ e. (e.0, mark_of e.1)) (finmap.entries bs.instances)) i
    ∙ found_mapped i (finmap.entries bs.instances)
    ∙ ap (option_map mark_of) (sym (finmap.get-entries bs.instances i))

module _ (f : Instance → Mark → Instance) where
  pub none_left : (w : Option Mark) (o : Option Instance) → w ≡ None → brought f w o ≡ None
  none_left w None e = refl
  none_left w (Some x) e = ap (option_map (f x)) e

  -- one entry more, where w is the mark of its name
  marked_by : (ms : Marks) (i j : BaseId) (x : Instance) (es : List (BaseId × Instance)) (w : Option Mark) (b : Bool) → finmap.get ms i ≡ w → eq_by_cmp id_cmp j i ≡ b →
      finmap.find id_cmp j (marked f ms es) ≡ brought f (finmap.get ms j) (finmap.find id_cmp j es) →
      finmap.find id_cmp j (option_map_or (λ m. (i, f x m) ∷ marked f ms es) w (marked f ms es)) ≡ brought f (finmap.get ms j) (cond b (Some x) (finmap.find id_cmp j es))
  marked_by ms i j x es (Some m) true e t rest =
      ap (λ b. cond b (Some (f x m)) (finmap.find id_cmp j (marked f ms es))) t
      ∙ sym (ap (option_map (f x)) (ap (finmap.get ms) (same_name j i t) ∙ e))
  marked_by ms i j x es (Some m) false e t rest = ap (λ b. cond b (Some (f x m)) (finmap.find id_cmp j (marked f ms es))) t ∙ rest
  marked_by ms i j x es None true e t rest =
      rest
      ∙ none_left (finmap.get ms j) (finmap.find id_cmp j es) (ap (finmap.get ms) (same_name j i t) ∙ e)
      ∙ sym (ap (option_map (f x)) (ap (finmap.get ms) (same_name j i t) ∙ e))
  marked_by ms i j x es None false e t rest = rest

  found_marked : (ms : Marks) (j : BaseId) (es : List (BaseId × Instance)) → finmap.find id_cmp j (marked f ms es) ≡ brought f (finmap.get ms j) (finmap.find id_cmp j es)
  found_marked ms j [] = refl
  found_marked ms j ((i, x) ∷ es) = marked_by ms i j x es (finmap.get ms i) (eq_by_cmp id_cmp j i) refl refl (found_marked ms j es)

pub cuts_are_read : CutsAreRead
cuts_are_read bs ms i =
    finmap.get-from_entries id_total (marked as_marked ms (finmap.entries bs.instances)) i
    ∙ found_marked as_marked ms i (finmap.entries bs.instances)
    ∙ ap (brought as_marked (finmap.get ms i)) (sym (finmap.get-entries bs.instances i))

pub counted_cuts_are_read : CountedCutsAreRead
counted_cuts_are_read bs ms i =
    finmap.get-from_entries id_total (marked as_cut ms (finmap.entries bs.instances)) i
    ∙ found_marked as_cut ms i (finmap.entries bs.instances)
    ∙ ap (brought as_cut (finmap.get ms i)) (sym (finmap.get-entries bs.instances i))

-- ---- cut to what is there

uncut : (x : Instance) → as_marked x (mark_of x) ≡ x
uncut x = ap (λ ms. record x { base = record x.base { members = ms } }) (take_all (length x.base.members) x.base.members (omega arith))

whole : (o : Option Instance) → brought as_marked (option_map mark_of o) o ≡ o
whole None = refl
whole (Some x) = ap (λ y. Some y) (uncut x)

within_by : (o : Option Instance) (m : Mark) → option_map mark_of o ≡ Some m → IsSome o × (m.count ≤ length (option_map_or (λ x. x.base) o empty).members)
within_by None m e = absurd (cc)
within_by (Some x) m e = (refl, omega (arith, ap (λ (k : Mark). k.count) (some_same (mark_of x) m e)))

pub nothing_is_cut : NothingIsCut
nothing_is_cut bs = (
  ap (λ t. record bs { instances = t }) (finmap.same_map id_total same_id (cut_all bs (marks_of bs)).instances bs.instances (λ i.
      cuts_are_read bs (marks_of bs) i ∙ ap (λ w. brought as_marked w (instance_at bs i)) (marks_are_read bs i) ∙ whole (instance_at bs i))),
  λ i m e. within_by (instance_at bs i) m (sym (marks_are_read bs i) ∙ e),
)

-- ---- bases that grew

there_by : (w : Option Mark) (o p : Option Instance) → (IsSome o → IsSome p) → IsSome (brought as_marked w o) → IsSome (brought as_marked w p)
there_by w None p k h = absurd (false≢true h)
there_by w (Some x) None k h = absurd (false≢true (k refl))
there_by None (Some x) (Some y) k h = h
there_by (Some m) (Some x) (Some y) k h = refl

get_taken : (c : ℕ) (xs : List Member) (i : ℕ) (m : Member) → slice_get (take c xs) i ≡ Some m → (i < c) × (slice_get xs i ≡ Some m)
get_taken zero xs i m e = absurd (cc)
get_taken (suc c) [] i m e = absurd (cc)
get_taken (suc c) (x ∷ xs) zero m e = (omega arith, e)
get_taken (suc c) (x ∷ xs) (suc i) m e = let h = get_taken c xs i m e in (omega (arith, h.0), h.1)

taken_get : (c : ℕ) (xs : List Member) (i : ℕ) (m : Member) → i < c → slice_get xs i ≡ Some m → slice_get (take c xs) i ≡ Some m
taken_get zero xs i m l e = absurd (omega (arith, l))
taken_get (suc c) [] i m l e = e
taken_get (suc c) (x ∷ xs) zero m l e = e
taken_get (suc c) (x ∷ xs) (suc i) m l e = taken_get c xs i m (omega (arith, l)) e

abbrev base_of : Option Instance → BaseState
base_of o = option_map_or (λ x. x.base) o empty

abbrev Keeps : BaseState → BaseState → Type 0
Keeps b c = (n : ℕ) (m : Member) → member_at b n ≡ Some m → member_at c n ≡ Some m

nothing_at : (c : BaseState) → Keeps empty c
nothing_at c zero m e = absurd (cc)
nothing_at c (suc i) m e = absurd (cc)

cut_keeps : (x y : Instance) (m : Mark) → Keeps x.base y.base → Keeps (as_marked x m).base (as_marked y m).base
cut_keeps x y m k zero l e = absurd (cc)
cut_keeps x y m k (suc i) l e = let h = get_taken m.count x.base.members i l e in taken_get m.count y.base.members i l h.0 (k (suc i) l h.1)

members_by : (w : Option Mark) (o p : Option Instance) → (IsSome o → IsSome p) → Keeps (base_of o) (base_of p) → Keeps (base_of (brought as_marked w o)) (base_of (brought as_marked w p))
members_by w None p t k = nothing_at (base_of (brought as_marked w p))
members_by w (Some x) None t k = absurd (false≢true (t refl))
members_by None (Some x) (Some y) t k = nothing_at empty
members_by (Some m) (Some x) (Some y) t k = cut_keeps x y m k

some_member : (xs : List Member) (i : ℕ) → i < length xs → (m : Member) × (slice_get xs i ≡ Some m)
some_member [] i l = absurd (omega (arith, l))
some_member (x ∷ xs) zero l = (x, refl)
some_member (x ∷ xs) (suc i) l = some_member xs i (omega (arith, l))

member_there : (xs : List Member) (i : ℕ) (m : Member) → slice_get xs i ≡ Some m → i < length xs
member_there [] i m e = absurd (cc)
member_there (x ∷ xs) zero m e = omega arith
member_there (x ∷ xs) (suc i) m e = omega (arith, member_there xs i m e)

as_long : (b c : BaseState) (n : ℕ) → Keeps b c → n ≤ length b.members → n ≤ length c.members
as_long b c zero k l = omega arith
as_long b c (suc i) k l =
    let one = some_member b.members i (omega (arith, l)) in
    omega (arith, member_there c.members i one.0 (k (suc i) one.0 one.1))

pub grown_alike : GrownBasesAreCutAlike
grown_alike bs cs ms more h = (
  record {
    there = λ i t.
        subst (λ o. IsSome o) (sym (cuts_are_read cs ms i))
        (there_by (finmap.get ms i) (instance_at bs i) (instance_at cs i) (more.there i) (subst (λ o. IsSome o) (cuts_are_read bs ms i) t));
    members = λ i.
        subst (λ o. Keeps (base_of (instance_at (cut_all bs ms) i)) (base_of o)) (sym (cuts_are_read cs ms i))
        (subst (λ o. Keeps (base_of o) (base_of (brought as_marked (finmap.get ms i) (instance_at cs i)))) (sym (cuts_are_read bs ms i))
        (members_by (finmap.get ms i) (instance_at bs i) (instance_at cs i) (more.there i) (more.members i)));
  },
  λ i m e. let w = h i m e in (more.there i w.0, as_long (base_at bs i) (base_at cs i) m.count (more.members i) w.1),
)

-- ---- what was there before a cut

there_before : (w : Option Mark) (o : Option Instance) → IsSome (brought as_marked w o) → IsSome o
there_before w None h = h
there_before w (Some x) h = refl

cut_was_there : (x : Instance) (m : Mark) → Keeps (as_marked x m).base x.base
cut_was_there x m zero l e = absurd (cc)
cut_was_there x m (suc i) l e = (get_taken m.count x.base.members i l e).1

members_before : (w : Option Mark) (o : Option Instance) → Keeps (base_of (brought as_marked w o)) (base_of o)
members_before w None = nothing_at empty
members_before None (Some x) = nothing_at x.base
members_before (Some m) (Some x) = cut_was_there x m

pub cut_blocks_were_there : CutBlocksWereThere
cut_blocks_were_there bs ms = record {
  there = λ i t. there_before (finmap.get ms i) (instance_at bs i) (subst (λ o. IsSome o) (cuts_are_read bs ms i) t);
  members = λ i. subst (λ o. Keeps (base_of o) (base_of (instance_at bs i))) (sym (cuts_are_read bs ms i)) (members_before (finmap.get ms i) (instance_at bs i));
}

-- ---- cuts that count

there_both : (w : Option Mark) (o : Option Instance) → (IsSome (brought as_marked w o) → IsSome (brought as_cut w o)) × (IsSome (brought as_cut w o) → IsSome (brought as_marked w o))
there_both w None = (λ h. h, λ h. h)
there_both None (Some x) = (λ h. h, λ h. h)
there_both (Some m) (Some x) = (λ h. refl, λ h. refl)

same_members : (b c : BaseState) → b.members ≡ c.members → Keeps b c
same_members b c e zero m p = p
same_members b c e (suc i) m p = ap (λ ms. slice_get ms i) (sym e) ∙ p

members_both : (w : Option Mark) (o : Option Instance) → (base_of (brought as_marked w o)).members ≡ (base_of (brought as_cut w o)).members
members_both w None = refl
members_both None (Some x) = refl
members_both (Some m) (Some x) = refl

pub counted_cuts_leave_the_same : CountedCutsLeaveTheSame
counted_cuts_leave_the_same bs ms =
    let same : (i : BaseId) → (base_at (cut_all bs ms) i).members ≡ (base_at (back_all bs ms) i).members = λ i.
    ap (λ o. (base_of o).members) (cuts_are_read bs ms i)
    ∙ members_both (finmap.get ms i) (instance_at bs i)
    ∙ sym (ap (λ o. (base_of o).members) (counted_cuts_are_read bs ms i))
    in (
      record {
        there = λ i t.
            subst (λ o. IsSome o) (sym (counted_cuts_are_read bs ms i))
            ((there_both (finmap.get ms i) (instance_at bs i)).0 (subst (λ o. IsSome o) (cuts_are_read bs ms i) t));
        members = λ i. same_members (base_at (cut_all bs ms) i) (base_at (back_all bs ms) i) (same i);
      },
      record {
        there = λ i t.
            subst (λ o. IsSome o) (sym (cuts_are_read bs ms i))
            ((there_both (finmap.get ms i) (instance_at bs i)).1 (subst (λ o. IsSome o) (counted_cuts_are_read bs ms i) t));
        members = λ i. same_members (base_at (back_all bs ms) i) (base_at (cut_all bs ms) i) (sym (same i));
      },
    )
