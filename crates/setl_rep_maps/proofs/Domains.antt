-- The domain of a table as numbers.
use Rattle.std.proofs.Common.{◌≡◌, ◌∙◌, ℕ, Bool, true, List, Option, None, Some, refl, sym, ap, subst}
use Rattle.std.proofs.lemmas.Bool.{false≢true}
use Rattle.std.specs.List.{Contains, filter_map}
use Rattle.std.specs.Option.{is_some}
use Rattle.std.specs.Ordering.{nat_cmp}
use Rattle.std.specs.FinSet as set
use Rattle.setl_value.specs.Datum.{Datum, set_of}
use Rattle.setl_value.specs.Pairs.{pair, pair_parts, first_of}
use Rattle.setl_set.specs.Laws.{RisingListsAgree, TestsMembership, Gathers}
use Rattle.setl_map.specs.Maps.{domain_of}
use Rattle.setl_base.specs.Base.{BaseState}
use Rattle.setl_rep_bases.specs.Bases.{BasesState, base_at, IsThere}
use Rattle.setl_rep_forms.specs.Form.{Form, Entries, table, numbers}
use Rattle.setl_rep_forms.specs.Stands.{members_at, stands, AreOver, AreLiving}
use Rattle.setl_rep_forms.specs.Laws.{IsAt, SetsHaveTheirMembers}
use Rattle.setl_rep_tables.specs.Tables.{content_in, IsKeyed, table_pairs, MembersOfTables}
use Rattle.setl_rep_maps.specs.Laws.{NumbersAreDomains}
use Rattle.setl_rep_maps.proofs.Members.{some_same, has_mapped, was_mapped}
use Rattle.setl_rep_maps.proofs.Tabled.{content_over, has_image}

some_content : (o : Option Form) → is_some o ≡ true → (c : Form) × (o ≡ Some c)
some_content None h = absurd (false≢true h)
some_content (Some c) h = (c, refl)

module _ (agree : RisingListsAgree) (tests : TestsMembership) (gathers : Gathers) (members : MembersOfTables) (sets : SetsHaveTheirMembers) (bs : BasesState) (b : BaseState) (many : Bool) (es : Entries) (ns : set.FinSet nat_cmp)
    (keyed : IsKeyed es) (over : AreOver bs b many es) (are : (n : ℕ) → set.contains ns n ≡ is_some (content_in es n)) where
  abbrev pairs : List Datum
  pairs = table_pairs bs b many es

  abbrev firsts : List Datum
  firsts = filter_map (λ d. first_of (pair_parts d)) pairs

  pub points_live : AreLiving b ns
  points_live n h = let c = some_content (content_in es n) (sym (are n) ∙ h) in (content_over bs b many es n c.0 over c.1).0

  forth : (x : Datum) → IsAt b ns x → Contains (domain_of pairs) x
  forth x h =
      let c = some_content (content_in es h.0) (sym (are h.0) ∙ h.1) in
      let y = has_image many (stands bs c.0) (content_over bs b many es h.0 c.0 over c.1).2 in
      let there : Contains pairs (pair x y.0) = (members bs b many es (pair x y.0) keyed).1 (h.0, c.0, x, y.0, c.1, h.2, y.1, refl) in
      ((gathers firsts).members x).1 ((tests x firsts).0 (has_mapped (λ d. first_of (pair_parts d)) (pair x y.0) x pairs ((tests (pair x y.0) pairs).1 there) refl))

  back : (x : Datum) → Contains (domain_of pairs) x → IsAt b ns x
  back x h =
      let p = was_mapped (λ d. first_of (pair_parts d)) x pairs ((tests x firsts).1 (((gathers firsts).members x).0 h)) in
      let m = (members bs b many es p.0 keyed).0 ((tests p.0 pairs).0 p.1) in
      let first : m.2 ≡ x = some_same (sym (ap (λ d. first_of (pair_parts d)) m.7) ∙ p.2) in
      (m.0, are m.0 ∙ ap is_some m.4, m.5 ∙ ap (λ z. Some z) first)

  pub domain_numbers : members_at b ns ≡ domain_of pairs
  domain_numbers =
      let at = sets b ns in
      agree (members_at b ns) (domain_of pairs) at.rising (gathers firsts).rising (λ x. (λ h. forth x ((at.members x).0 h), λ h. (at.members x).1 (back x h)))

pub numbers_are_domains : RisingListsAgree → TestsMembership → Gathers → MembersOfTables → SetsHaveTheirMembers → NumbersAreDomains
numbers_are_domains agree tests gathers members sets bs (table k b many es) (numbers l d ns) over keyed h = (
  (subst (IsThere bs) (sym h.1) over.0, subst (λ i. AreLiving (base_at bs i) ns) (sym h.1) (points_live agree tests gathers members sets bs (base_at bs b) many es ns keyed over.1 h.2)),
  ap (λ i. Some (set_of (members_at (base_at bs i) ns))) h.1 ∙ ap (λ l. Some (set_of l)) (domain_numbers agree tests gathers members sets bs (base_at bs b) many es ns keyed over.1 h.2),
)
numbers_are_domains agree tests gathers members sets bs (table k b many es) g over keyed h = absurd h
numbers_are_domains agree tests gathers members sets bs f g over keyed h = absurd h
