-- A table of instances and the bases that it stands for, name by name.
use Rattle.std.proofs.Common.{◌≡◌, ◌∙◌, ℕ, suc, ◌+◌, arith, Bool, true, false, cond, not, List, [], ◌∷◌, Option, None, Some, IsSome, refl, sym, ap, subst}
use Rattle.std.proofs.lemmas.Bool.{false≢true}
use Rattle.std.specs.BTreeMap.{is_at}
use Rattle.std.specs.Option.{option_map, option_map_or}
use Rattle.std.specs.Cmp.{eq_by_cmp_equiv, Equal-is}
use Rattle.std.proofs.lemmas.Map.Entries.{option_filter}
use Rattle.std.specs.FinMap as map
use Rattle.setl_value.specs.Datum.{Datum}
use Rattle.setl_base.specs.Base.{BaseState, empty, find}
use Rattle.setl_base.specs.declared.Elt.{Elt}
use Rattle.setl_rep_bases.specs.declared.BaseId.{BaseId}
use Rattle.setl_rep_bases.specs.declared.tables.Instance.{Instance}
use Rattle.setl_rep_bases.specs.BaseId.{id_cmp, main}
use Rattle.setl_rep_bases.specs.Bases.{BasesState, instance_at, base_at, is_gone, IsThere, fresh, main_instances, with_instance, without, without_gone}
use Rattle.setl_rep_bases.specs.Tables.{found, state_of, base_in, Puts, Alters, Stays, not_gone}
use Rattle.setl_rep_bases.proofs.Ids.{id_total, same_id}

find_found : (es : List (BaseId × Instance)) (q : BaseId) → map.find id_cmp q es ≡ found es q
find_found [] q = refl
find_found (e ∷ es) q = ap (cond (is_at (id_cmp q) e.0) (Some e.1)) (find_found es q)

-- what the map of a table has at a name
pub at_table : (es : List (BaseId × Instance)) (q : BaseId) → map.get (map.from_entries {R = id_cmp} es) q ≡ found es q
at_table es q = map.get-from_entries id_total es q ∙ find_found es q

-- ---- tables that differ at one name

pub put : (i : BaseId) (x : Instance) (old new : List (BaseId × Instance)) → Puts i (Some x) old new → map.from_entries {R = id_cmp} new ≡ map.insert (map.from_entries old) i x
put i x old new h =
    map.same_map id_total same_id _ _ (λ q.
    at_table new q
    ∙ h q
    ∙ ap (cond (is_at (id_cmp i) q) (Some x)) (sym (at_table old q))
    ∙ ap (λ b. cond b (Some x) (map.get (map.from_entries {R = id_cmp} old) q)) ((eq_by_cmp_equiv id_total).symm i q)
    ∙ sym (map.get-insert id_total (map.from_entries old) i x q))

taken : (i : BaseId) (old new : List (BaseId × Instance)) → Puts i None old new → map.from_entries {R = id_cmp} new ≡ map.remove (map.from_entries old) i
taken i old new h =
    map.same_map id_total same_id _ _ (λ q.
    at_table new q
    ∙ h q
    ∙ ap (cond (is_at (id_cmp i) q) None) (sym (at_table old q))
    ∙ ap (λ b. cond b None (map.get (map.from_entries {R = id_cmp} old) q)) ((eq_by_cmp_equiv id_total).symm i q)
    ∙ sym (map.get-remove id_total (map.from_entries old) i q))

-- a change that changes nothing
pub unchanged : (i : BaseId) (old new : List (BaseId × Instance)) → Alters (λ x. x) i old new → Stays old new
unchanged i old new h j = h j ∙ by (is_at (id_cmp i) j) refl
  where
    itself : (o : Option Instance) → option_map (λ x. x) o ≡ o
    itself None = refl
    itself (Some x) = refl

    by : (t : Bool) → is_at (id_cmp i) j ≡ t → cond t (option_map (λ x. x) (found old i)) (found old j) ≡ found old j
    by true e = itself (found old i) ∙ ap (found old) (same_id i j ((Equal-is (id_cmp i j)).0 e))
    by false e = refl

-- what a filter leaves
pub filtered : (o : Option Instance) → option_filter (λ x. not x.gone) o ≡ not_gone o
filtered None = refl
filtered (Some x) = by x.gone
  where
    by : (t : Bool) → cond (not t) (Some x) None ≡ cond t None (Some x)
    by true = refl
    by false = refl

kept_one : (o : Option Instance) → not_gone o ≡ cond (not (option_map_or (λ x. x.gone) o false)) o None
kept_one None = refl
kept_one (Some x) = by x.gone
  where
    by : (b : Bool) → cond b None (Some x) ≡ cond (not b) (Some x) None
    by true = refl
    by false = refl

-- ---- a table that stood for the bases s

module _ (count : ℕ) (old new : List (BaseId × Instance)) (s : BasesState) (is : state_of count old ≡ s) where
  pub at_state : (i : BaseId) → instance_at s i ≡ found old i
  at_state i = ap (λ t. instance_at t i) (sym is) ∙ at_table old i

  pub there : (i : BaseId) → IsThere s i → IsSome (found old i)
  there i h = subst (λ o. IsSome o) (at_state i) h

  pub same_base : (i : BaseId) → base_in (found old i) ≡ base_at s i
  same_base i = ap base_in (sym (at_state i))

  pub stays : Stays old new → state_of count new ≡ s
  stays h =
      let same : map.from_entries {R = id_cmp} new ≡ map.from_entries old = map.same_map id_total same_id _ _ (λ q. at_table new q ∙ h q ∙ sym (at_table old q)) in
      (λ i. record { count = count; instances = same i }) ∙ is

  pub added : (i : BaseId) (x : Instance) → Puts i (Some x) old new → state_of count new ≡ with_instance s i x
  added i x h = (λ k. record { count = count; instances = put i x old new h k }) ∙ ap (λ t. with_instance t i x) is

  pub removed : (i : BaseId) → Puts i None old new → state_of count new ≡ without s i
  removed i h = (λ k. record { count = count; instances = taken i old new h k }) ∙ ap (λ t. without t i) is

  pub altered : (g : BaseState → BaseState) (k : Bool → Bool) (i : BaseId) → IsThere s i → Alters (λ x. record { base = g x.base; gone = k x.gone }) i old new
      → state_of count new ≡ with_instance s i (record { base = g (base_at s i); gone = k (is_gone s i) })
  altered g k i there h = by (instance_at s i) refl there
    where
      by : (o : Option Instance) → instance_at s i ≡ o → IsSome o
          → state_of count new ≡ with_instance s i (record { base = g (option_map_or (λ x. x.base) o empty); gone = k (option_map_or (λ x. x.gone) o false) })
      by None p t = absurd (false≢true t)
      by (Some x) p t =
          let f : Instance → Instance = λ y. record { base = g y.base; gone = k y.gone } in
          added i (f x) (subst (λ w. Puts i w old new) (ap (option_map f) (sym (at_state i) ∙ p)) h)

  pub gone_dropped : ((i : BaseId) → found new i ≡ not_gone (found old i)) → state_of count new ≡ without_gone s
  gone_dropped h =
      let t = state_of count old in
      let same : map.from_entries {R = id_cmp} new ≡ map.retain_keys t.instances (λ i. not (is_gone t i)) =
      map.same_map id_total same_id _ _ (λ q.
      at_table new q
      ∙ h q
      ∙ ap not_gone (sym (at_table old q))
      ∙ kept_one (instance_at t q)
      ∙ sym (map.get-retain_keys t.instances (λ i. not (is_gone t i)) q (λ x e. ap (λ j. not (is_gone t j)) (sym (same_id q x e)))))
      in
      (λ k. record { count = count; instances = same k }) ∙ ap without_gone is

-- the handle of a member of the table is that of the bases
pub found_at : (count : ℕ) (es : List (BaseId × Instance)) (i : BaseId) (d : Datum) (e : Elt) → find (base_in (found es i)) d ≡ Some e → find (base_at (state_of count es) i) d ≡ Some e
found_at count es i d e h = ap (λ o. find (base_in o) d) (at_table es i) ∙ h

-- a table with the main program's instances of one base more
pub main_added : (n : ℕ) (old new : List (BaseId × Instance)) → Puts (main n) (Some fresh) old new → map.from_entries {R = id_cmp} old ≡ main_instances n → map.from_entries {R = id_cmp} new ≡ main_instances (n + 1)
main_added n old new h is = put (main n) fresh old new h ∙ ap (λ m. map.insert m (main n) fresh) is ∙ ap main_instances more
  where
    more : suc n ≡ n + 1
    more = omega arith

pub gone_is_there : (s : BasesState) (i : BaseId) → is_gone s i ≡ true → IsThere s i
gone_is_there s i h = by (instance_at s i) h
  where
    by : (o : Option Instance) → option_map_or (λ x. x.gone) o false ≡ true → IsSome o
    by None e = absurd (false≢true e)
    by (Some x) e = refl
