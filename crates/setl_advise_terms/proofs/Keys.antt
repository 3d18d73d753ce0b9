-- The test of keys is that of the targets that they stand for.
use Rattle.std.proofs.Common.{◌≡◌, refl, Bool}
use Rattle.setl_advise_gathering.specs.declared.condition.Name.TheVariants as name
use Rattle.setl_advise_gathering.specs.declared.condition.Target.{Target}
use Rattle.setl_advise_gathering.specs.declared.condition.Target.TheVariants as target
use Rattle.setl_advise_gathering.specs.code.Plain.{plain_target}
use Rattle.setl_advise_gathering.specs.contracts.condition.TargetPartialEq.TheImpl.{eq-value}
use Rattle.setl_advise_terms.specs.Table.{is_target}

abbrev pub is_key : Target → Target → Bool
is_key a b = eq-value.it a b

pub keys_are : (a b : Target) → is_key a b ≡ is_target (plain_target a) (plain_target b)
keys_are (target.Into (name.Global a)) (target.Into (name.Global b)) = refl
keys_are (target.Into (name.Global a)) (target.Into (name.Own n b)) = refl
keys_are (target.Into (name.Global a)) (target.Into (name.Former n b)) = refl
keys_are (target.Into (name.Own n a)) (target.Into (name.Global b)) = refl
keys_are (target.Into (name.Own n a)) (target.Into (name.Own m b)) = refl
keys_are (target.Into (name.Own n a)) (target.Into (name.Former m b)) = refl
keys_are (target.Into (name.Former n a)) (target.Into (name.Global b)) = refl
keys_are (target.Into (name.Former n a)) (target.Into (name.Own m b)) = refl
keys_are (target.Into (name.Former n a)) (target.Into (name.Former m b)) = refl
keys_are (target.Into (name.Global a)) (target.ResultOf g) = refl
keys_are (target.Into (name.Own n a)) (target.ResultOf g) = refl
keys_are (target.Into (name.Former n a)) (target.ResultOf g) = refl
keys_are (target.ResultOf f) (target.Into (name.Global b)) = refl
keys_are (target.ResultOf f) (target.Into (name.Own m b)) = refl
keys_are (target.ResultOf f) (target.Into (name.Former m b)) = refl
keys_are (target.ResultOf f) (target.ResultOf g) = refl
