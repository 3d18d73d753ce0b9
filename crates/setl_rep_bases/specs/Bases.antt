-- The bases of a run, by their instances, as contracts see them, and what each call is on them.
use Rattle.std.specs.Prelude.{ℕ, zero, suc, Bool, false, not, if◌then◌else◌, Option, IsSome, is_some, refl}
use Rattle.std.specs.Option.{option_map_or}
use Rattle.std.specs.Coded.{Coded, code_by, coded×, coded_ℕ, coded_bool}
use Rattle.std.specs.FinMap as map
use Rattle.setl_value.specs.Datum.{Datum}
use Rattle.setl_base.specs.Base.{BaseState, coded_base, empty, entered, cut_back, undone}
use Rattle.setl_rep_bases.specs.declared.BaseId.{BaseId}
use Rattle.setl_rep_bases.specs.declared.tables.Instance.{Instance}
use Rattle.setl_rep_bases.specs.BaseId.{id_cmp, coded_id, id, main}

-- how many bases the main program has, and the instances that are there: each has its base, and may be gone, which is what
-- is kept of an instance after its activation returned
pub record BasesState : Type 0 where
  pub count : ℕ
  pub instances : map.FinMap id_cmp Instance

abbrev coded_instance : Coded Instance
coded_instance = code_by (BaseState × Bool) (coded× coded_base coded_bool) (λ x. (x.base, x.gone)) (λ p. record { base = p.0; gone = p.1 }) (λ _. refl)

abbrev pub coded_bases : Coded BasesState
coded_bases =
    code_by (ℕ × map.FinMap id_cmp Instance) (coded× coded_ℕ (map.code coded_id coded_instance)) (λ bs. (bs.count, bs.instances)) (λ p. record { count = p.0; instances = p.1 }) (λ _. refl)

-- ---- what is there

-- the instance of a name, where it is there
abbrev pub instance_at : BasesState → BaseId → Option Instance
instance_at bs i = map.get bs.instances i

abbrev pub is_there : BasesState → BaseId → Bool
is_there bs i = is_some (instance_at bs i)

abbrev pub IsThere : BasesState → BaseId → Type 0
IsThere bs i = IsSome (instance_at bs i)

-- whether the instance is there as gone
abbrev pub is_gone : BasesState → BaseId → Bool
is_gone bs i = option_map_or (λ x. x.gone) (instance_at bs i) false

-- the base of an instance; one that isn't there has no members
abbrev pub base_at : BasesState → BaseId → BaseState
base_at bs i = option_map_or (λ x. x.base) (instance_at bs i) empty

-- the instance that the number of a base names in an activation: that of the main program, where it has such a base
abbrev pub named : BasesState → (instance : ℕ) → (base : ℕ) → BaseId
named bs n b = if is_there bs (main b) then main b else id b n

-- ---- changes

abbrev pub with_instance : BasesState → BaseId → Instance → BasesState
with_instance bs i x = record bs { instances = map.insert bs.instances i x }

-- with this base in the instance
abbrev pub with_base : BasesState → BaseId → BaseState → BasesState
with_base bs i b = with_instance bs i (record { base = b; gone = is_gone bs i })

-- d is entered into the instance
abbrev pub with_entered : BasesState → BaseId → Datum → BasesState
with_entered bs i d = with_base bs i (entered (base_at bs i) d)

-- the instance is cut to its first n members, by a cut that counts
abbrev pub with_cut : BasesState → BaseId → ℕ → BasesState
with_cut bs i n = with_base bs i (cut_back (base_at bs i) n)

-- the same, by a cut that doesn't count
abbrev pub with_undone : BasesState → BaseId → ℕ → BasesState
with_undone bs i n = with_base bs i (undone (base_at bs i) n)

-- a new instance, without members
abbrev pub fresh : Instance
fresh = record { base = empty; gone = false }

abbrev pub with_added : BasesState → BaseId → BasesState
with_added bs i = with_instance bs i fresh

-- the instance is there as gone, or as one that isn't
abbrev pub with_gone : BasesState → BaseId → Bool → BasesState
with_gone bs i gone = with_instance bs i (record { base = base_at bs i; gone = gone })

abbrev pub without : BasesState → BaseId → BasesState
without bs i = record bs { instances = map.remove bs.instances i }

-- without those that are gone
abbrev pub without_gone : BasesState → BasesState
without_gone bs = record bs { instances = map.retain_keys bs.instances (λ i. not (is_gone bs i)) }

-- the main program's instances of so many bases, without members
abbrev pub main_instances : ℕ → map.FinMap id_cmp Instance
main_instances zero = map.empty
main_instances (suc n) = map.insert (main_instances n) (main n) fresh

abbrev pub main_bases : ℕ → BasesState
main_bases n = record { count = n; instances = main_instances n }
