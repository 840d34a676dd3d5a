-- What a typed operation sets is a variable of its graph.
use Rattle.std.proofs.Common.{◌≡◌, ◌<◌, ℕ, true, List, length, Option, Some, None, refl, sym, subst}
use Rattle.std.specs.Prelude.{slice_get}
use Rattle.csub_tree.specs.declared.tree.COperand.{COperand}
use Rattle.ll_code.specs.Typed.{operation_ok, given_takes, has_given, has_type, result_ok, call_ok, field_of, items_of, unary_gives, binary_gives}
use Rattle.ll_code.specs.declared.program.LlType.{LlType}
use Rattle.ll_code.specs.declared.program.LlType.TheVariants as type
use Rattle.ll_code.specs.declared.program.LlOp.{LlOp}
use Rattle.ll_code.specs.declared.program.LlOp.TheVariants as op
use Rattle.ll_code.specs.declared.program.LlGraph.{LlGraph}
use Rattle.ll_code.specs.declared.program.LlProgram.{LlProgram}
use Rattle.ll_laws.proofs.Values.{and_left, and_right}
use Rattle.ll_live.specs.Live.{set_by}
use Rattle.turned_laws.proofs.Lists.{none_true, within_list, typed_within}

module _ (p : LlProgram) (types : List LlType) where
  abbrev IsWithin : ℕ → Type 0
  IsWithin a = a < length types

  one_within : (a b : ℕ) → Some a ≡ Some b → IsWithin a → IsWithin b
  one_within a b e h = let f : a ≡ b = cc in subst IsWithin f h

  given_within : (a : ℕ) (x : COperand) → given_takes p types (slice_get types a) x ≡ true → IsWithin a
  given_within a x h = one (slice_get types a) refl h
    where
      one : (o : Option LlType) → slice_get types a ≡ o → given_takes p types o x ≡ true → IsWithin a
      one None e h = none_true (sym h)
      one (Some t) e h = within_list types a t e

  has_within : (a : ℕ) (o : Option LlType) → has_given types a o ≡ true → IsWithin a
  has_within a None h = none_true (sym h)
  has_within a (Some t) h = typed_within t types a h

  pub result_within : (into : Option ℕ) (t : LlType) (a : ℕ) → into ≡ Some a → result_ok types into t ≡ true → IsWithin a
  result_within None t a e h = absurd (cc)
  result_within (Some b) t a e h = one_within b a e (typed_within t types b h)

  called_within : (into : Option ℕ) (o : Option LlGraph) (xs : List COperand) (a : ℕ) → into ≡ Some a → call_ok p types into o xs ≡ true → IsWithin a
  called_within into None xs a e h = none_true (sym h)
  called_within into (Some g) xs a e h = result_within into g.result a e (and_left _ _ h)

  pub set_within : (o : LlOp) → operation_ok p types o ≡ true → (a : ℕ) → set_by o ≡ Some a → IsWithin a
  set_within (op.Set b x) h a e = one_within b a e (given_within b x h)
  set_within (op.Unary b o x) h a e = one_within b a e (typed_within (unary_gives o) types b (and_left _ _ h))
  set_within (op.Binary b o x y) h a e = one_within b a e (typed_within (binary_gives o) types b (and_left _ _ h))
  set_within (op.GetField b n c k) h a e = one_within b a e (has_within b (field_of (slice_get p.structs n) k) (and_right _ _ h))
  set_within (op.GetItem b n c i) h a e = one_within b a e (has_within b (items_of (slice_get p.structs n)) (and_right _ _ h))
  set_within (op.New b m n) h a e = one_within b a e (typed_within (type.Ptr m) types b (and_left _ _ (and_left _ _ h)))
  set_within (op.NewArray b m n x) h a e = one_within b a e (typed_within (type.Ptr m) types b (and_left _ _ (and_left _ _ (and_left _ _ h))))
  set_within (op.Call into f xs) h a e = called_within into (slice_get p.graphs f) xs a e h
  set_within (op.CallFn into result params b xs) h a e = result_within into result a e (and_right _ _ (and_left _ _ h))
  set_within (op.ExcType b n) h a e = one_within b a e (typed_within (type.Ptr n) types b (and_right _ _ h))
  set_within (op.ExcValue b n) h a e = one_within b a e (typed_within (type.Ptr n) types b (and_right _ _ h))
  set_within (op.Argc b) h a e = one_within b a e (typed_within type.Signed types b h)
  set_within (op.ArgLen b x) h a e = one_within b a e (typed_within type.Signed types b (and_left _ _ h))
  set_within (op.Arg b x y) h a e = one_within b a e (typed_within type.Signed types b (and_left _ _ (and_left _ _ h)))
  set_within (op.SetField n b k x) h a e = absurd (cc)
  set_within (op.SetItem n b i x) h a e = absurd (cc)
  set_within (op.Free b) h a e = absurd (cc)
  set_within (op.Step x) h a e = absurd (cc)
  set_within (op.ExcSet b c) h a e = absurd (cc)
  set_within op.ExcClear h a e = absurd (cc)
  set_within (op.Put x) h a e = absurd (cc)
  set_within (op.Raise b) h a e = absurd (cc)
