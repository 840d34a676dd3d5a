-- Small graphs that are the same by the comparison of the code are the same.
use Rattle.std.proofs.Common.{◌≡◌, true, false, refl, ap, arith, rules}
use Rattle.std.proofs.lemmas.Bool.Decides.{nat_tests}
use denote.Enum.Bare.{same_true}
use Rattle.csub_tree.specs.declared.tree.CBinary.{CBinary}
use Rattle.csub_tree.specs.contracts.tree.CBinary.{the_type as binary_type}
use Rattle.csub_tree.specs.contracts.tree.CBinaryPartialEq.TheImpl.{eq-value as equal_operators}
use Rattle.ll_code.specs.declared.program.LlType.{LlType}
use Rattle.ll_code.specs.declared.program.LlType.TheVariants as type
use Rattle.ll_code.specs.contracts.program.LlTypePartialEq.TheImpl.{eq-value as equal_types}
use Rattle.rtyper_data.specs.declared.small.Small.{Small}
use Rattle.rtyper_data.specs.declared.small.Small.TheVariants as small
use Rattle.rtyper_data.specs.declared.small.Listed.{Listed}
use Rattle.rtyper_data.specs.declared.small.Listed.TheVariants as listed
use Rattle.rtyper_data.specs.declared.small.Keyed.{Keyed}
use Rattle.rtyper_data.specs.declared.small.Keyed.TheVariants as keyed
use Rattle.rtyper_data.specs.contracts.small.ListedPartialEq.TheImpl.{eq-value as equal_listed}
use Rattle.rtyper_data.specs.contracts.small.KeyedPartialEq.TheImpl.{eq-value as equal_keyed}
use Rattle.rtyper_data.specs.Finding.{same_small}

type_is : (s t : LlType) → equal_types.it s t ≡ true → s ≡ t
type_is type.Signed type.Signed h = refl
type_is type.Char type.Char h = refl
type_is type.Bool type.Bool h = refl
type_is type.Void type.Void h = refl
type_is type.Fn type.Fn h = refl
type_is (type.Ptr m) (type.Ptr n) h = grind (arith, nat_tests, h)
type_is s t h = absurd (let f : false ≡ true = h in cc)

operator_is : (a b : CBinary) → equal_operators.it a b ≡ true → a ≡ b
operator_is a b h = same_true binary_type (search rules) a b h

listed_is : (a b : Listed) → equal_listed.it a b ≡ true → a ≡ b
listed_is (listed.Place m r) (listed.Place n s) h = grind (arith, nat_tests, h)
listed_is (listed.Remove m) (listed.Remove n) h = grind (arith, nat_tests, h)
listed_is (listed.Copy m k) (listed.Copy n l) h = grind (arith, nat_tests, h)
listed_is (listed.MoveUp m) (listed.MoveUp n) h = grind (arith, nat_tests, h)
listed_is (listed.Room m) (listed.Room n) h = grind (arith, nat_tests, h)
listed_is (listed.Append m) (listed.Append n) h = grind (arith, nat_tests, h)
listed_is (listed.Insert m) (listed.Insert n) h = grind (arith, nat_tests, h)
listed_is (listed.Extend m k) (listed.Extend n l) h = grind (arith, nat_tests, h)
listed_is (listed.Reverse m) (listed.Reverse n) h = grind (arith, nat_tests, h)
listed_is (listed.Make m) (listed.Make n) h = grind (arith, nat_tests, h)
listed_is (listed.Concat m k i) (listed.Concat n l j) h = grind (arith, nat_tests, h)
listed_is (listed.Repeat m k) (listed.Repeat n l) h = grind (arith, nat_tests, h)
listed_is (listed.Slice m k) (listed.Slice n l) h = grind (arith, nat_tests, h)
listed_is (listed.ButLast m k) (listed.ButLast n l) h = grind (arith, nat_tests, h)
listed_is (listed.Contains t m) (listed.Contains u n) h = grind (arith, nat_tests, type_is, h)
listed_is (listed.Truth m) (listed.Truth n) h = grind (arith, nat_tests, h)
listed_is (listed.Arguments m) (listed.Arguments n) h = grind (arith, nat_tests, h)
listed_is (listed.Join m) (listed.Join n) h = grind (arith, nat_tests, h)
listed_is (listed.Split m) (listed.Split n) h = grind (arith, nat_tests, h)
listed_is listed.Part listed.Part h = refl
listed_is a b h = absurd (let f : false ≡ true = h in cc)

keyed_is : (a b : Keyed) → equal_keyed.it a b ≡ true → a ≡ b
keyed_is (keyed.Hash t) (keyed.Hash u) h = ap keyed.Hash (type_is t u h)
keyed_is (keyed.Make m) (keyed.Make n) h = grind (arith, nat_tests, h)
keyed_is keyed.Size keyed.Size h = refl
keyed_is (keyed.Fill m) (keyed.Fill n) h = grind (arith, nat_tests, h)
keyed_is (keyed.Find m) (keyed.Find n) h = grind (arith, nat_tests, h)
keyed_is (keyed.Entry m) (keyed.Entry n) h = grind (arith, nat_tests, h)
keyed_is (keyed.Enter m) (keyed.Enter n) h = grind (arith, nat_tests, h)
keyed_is (keyed.Index m) (keyed.Index n) h = grind (arith, nat_tests, h)
keyed_is (keyed.Grow m) (keyed.Grow n) h = grind (arith, nat_tests, h)
keyed_is (keyed.Add m) (keyed.Add n) h = grind (arith, nat_tests, h)
keyed_is (keyed.Store m) (keyed.Store n) h = grind (arith, nat_tests, h)
keyed_is (keyed.Remove m) (keyed.Remove n) h = grind (arith, nat_tests, h)
keyed_is (keyed.Value m) (keyed.Value n) h = grind (arith, nat_tests, h)
keyed_is (keyed.Get m t) (keyed.Get n u) h = grind (arith, nat_tests, type_is, h)
keyed_is (keyed.Truth m) (keyed.Truth n) h = grind (arith, nat_tests, h)
keyed_is (keyed.Keys m k) (keyed.Keys n l) h = grind (arith, nat_tests, h)
keyed_is (keyed.Values m k) (keyed.Values n l) h = grind (arith, nat_tests, h)
keyed_is (keyed.Items m k) (keyed.Items n l) h = grind (arith, nat_tests, h)
keyed_is a b h = absurd (let f : false ≡ true = h in cc)

pub small_is : (a b : Small) → same_small a b ≡ true → a ≡ b
small_is (small.Cast m k) (small.Cast n l) h = grind (arith, nat_tests, h)
small_is (small.Equal m k) (small.Equal n l) h = grind (arith, nat_tests, h)
small_is (small.Fail r) (small.Fail s) h = grind (arith, nat_tests, h)
small_is (small.Present t r) (small.Present u s) h = grind (arith, nat_tests, type_is, h)
small_is (small.New m) (small.New n) h = grind (arith, nat_tests, h)
small_is (small.Attribute m k r) (small.Attribute n l s) h = grind (arith, nat_tests, h)
small_is (small.Raise m) (small.Raise n) h = grind (arith, nat_tests, h)
small_is (small.Checked a r) (small.Checked b s) h = grind (arith, nat_tests, operator_is, h)
small_is small.CheckedNeg small.CheckedNeg h = refl
small_is small.IntOfText small.IntOfText h = refl
small_is (small.Listed a) (small.Listed b) h = ap small.Listed (listed_is a b h)
small_is (small.Keyed a) (small.Keyed b) h = ap small.Keyed (keyed_is a b h)
small_is (small.IsInstance m k i a) (small.IsInstance n l j b) h = grind (arith, nat_tests, h)
small_is a b h = absurd (let f : false ≡ true = h in cc)
