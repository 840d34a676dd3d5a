-- Whether a key that is converted has an entry.
use Rattle.std.proofs.Common.{◌≡◌, ℕ, ◌+◌, Bool, arith, true, false, List, [], ◌∷◌, ◌++◌, pos, refl, sym, ap, ◌∙◌}
use Rattle.csub_tree.specs.declared.tree.CBinary.TheVariants as binary
use Rattle.csub_tree.specs.declared.tree.COperand.{COperand}
use Rattle.rpy_base.specs.declared.outcome.FailName.TheVariants as fail
use Rattle.rpy_tree.specs.Value.{Value as Meant, Word, Flag, Text, Nothing, Tuple, Fun, Ref}
use Rattle.rpy_tree.specs.declared.syntax.CmpOp.{CmpOp}
use Rattle.rpy_tree.specs.declared.syntax.CmpOp.TheVariants as compared
use Rattle.rpy_meaning.specs.declared.row.Covers.{Covers}
use Rattle.rpy_meaning.specs.declared.row.RowOp.TheVariants as row
use Rattle.rpy_meaning.specs.Operations.{op as meant_op, within as meant_within}
use Rattle.rtyper_layout.specs.declared.kind.Kind.TheVariants as kind
use Rattle.rtyper_layout.specs.Kinds.{kind_seen}
use Rattle.lower_laws.specs.Asked.{Ask}
use Rattle.dict_op_laws.specs.Dicts.{there_asks}
use Rattle.dict_find_laws.specs.Lookups.{IsTold as IsToldAsItIs}
use Rattle.dict_conversion_laws.specs.Lookups.{IsTold, key_asks, key_blocks, key_references}
use Rattle.std.specs.Prelude.{not}
use Rattle.rpy_meaning.specs.World.{World, failure}
use Rattle.ll_code.specs.declared.program.LlType.TheVariants as type
use Rattle.ll_build.specs.Build.{word as word_operand}
use Rattle.rtyper_layout.specs.declared.dicts.Mapping.{Mapping}
use Rattle.rtyper_data.specs.declared.small.Keyed.TheVariants as keyed
use Rattle.rtyper_data.specs.declared.small.Small.TheVariants as small
use Rattle.rtyper_data.specs.Comparing.{alone, binary_in, opposite_of}
use Rattle.rtyper_data.specs.Converting.{give_made}
use Rattle.rtyper_data.specs.Seen.{Around, Operand, Place, Writing}
use Rattle.rtyper_dict.specs.Lowering.{compare, is_there, lower_dict_op, of_second, within, within_or}
use Rattle.rtyper_dict.specs.Operands.{dict_of}
use Rattle.rtyper_dict.specs.Parts.{shape_of}
use Rattle.list_shape.specs.Shapes.{taking}
use Rattle.lower_laws.specs.Asked.{Make}
use Rattle.object_laws.specs.Known.{Known}
use Rattle.dict_find_laws.specs.Asked.{Has as HasLooking}
use Rattle.dict_find_laws.specs.Lookups.{FirstIsThere}
use Rattle.dict_find_laws.proofs.Within.{not_within_is, within_is}
use Rattle.dict_conversion_laws.specs.Lookups.{IsAskedFor, KeysAreLookedFor}
use Rattle.dict_conversion_laws.proofs.Keyed.{as_before, as_it_is, at_most, entry_same, key_comes_first, shape_again, shape_first, the_dict, the_key, w2}

fails_so : (c : Covers) (f : Bool → Bool) (v : Meant) (world : World) → meant_within c f v Nothing world ≡ failure c.attribute 9 fail.Attribute world
fails_so c f (Word z) world = refl
fails_so c f (Flag b) world = refl
fails_so c f (Text bytes) world = refl
fails_so c f Nothing world = refl
fails_so c f (Tuple vs) world = refl
fails_so c f (Fun f2) world = refl
fails_so c f (Ref i) world = refl

module _ (known : Known) (around : Around) (place : Place) (a b : Operand) (w : Writing) (n : ℕ) (m : Mapping) (is : IsAskedFor around known b a n m) where
  abbrev told_from : Bool → (COperand × COperand) × Writing → Writing
  told_from reversed made = give_made around place type.Bool (taking made (λ at next. opposite_of reversed (alone next.found (binary_in binary.Ge type.Bool at.1 (word_operand (pos 0)) next.body))))

  abbrev key : Operand
  key = the_key known around b a n m is w

  abbrev dict : Operand
  dict = the_dict known around b a n m is w

  abbrev next : Writing
  next = w2 known around b a n m is w

  written_same : (reversed : Bool) → within_or around place (dict_of around b) reversed a b w ≡ within_or around place (dict_of around dict) reversed key dict next
  unfolding within is_there
  written_same reversed =
      ap (λ o. within_or around place o reversed a b w) (shape_first known around b a n m is w)
      ∙ ap (told_from reversed) (entry_same known around b a n m is w (keyed.Find (shape_of m).dict))
      ∙ ap (λ o. within_or around place o reversed key dict next) (sym (shape_again known around b a n m is w))

module _ (known : Known) (around : Around) (place : Place) (a b : Operand) (w : Writing) (n : ℕ) (m : Mapping) (is : IsAskedFor around known b a n m) (flags : kind_seen place.element ≡ kind.Flag) where
  abbrev asks : List Ask
  asks = Make (small.Keyed (keyed.Find n)) ∷ []

  abbrev key2 : Operand
  key2 = the_key known around b a n m is w

  abbrev dict2 : Operand
  dict2 = the_dict known around b a n m is w

  abbrev next2 : Writing
  next2 = w2 known around b a n m is w

  told : (o : CmpOp) → ((v : Meant) (world : World) → meant_op known.program w.found.covered (row.Compare o) (v ∷ Nothing ∷ []) world ≡ failure w.found.covered.attribute 9 fail.Attribute world)
      → lower_dict_op around (row.Compare o) place (a ∷ b ∷ []) w ≡ lower_dict_op around (row.Compare o) place (key2 ∷ dict2 ∷ []) next2
      → IsToldAsItIs (FirstIsThere m) known around (row.Compare o) next2.found.covered (there_asks around dict2 next2.found.covered ++ asks) place (key2 ∷ dict2 ∷ []) next2
      → IsTold (FirstIsThere m) (key_blocks known m) (key_references known m) known around (row.Compare o) w.found.covered (key_asks around known b a m w.found.covered asks) place (a ∷ b ∷ []) w
  told o fails same done =
      at_most (key_blocks known m + 0) (key_references known m + 0) (key_blocks known m) (key_references known m) (omega arith) (omega arith)
      (key_comes_first known around b a n m is w (FirstIsThere m) 0 0 (row.Compare o) asks (lower_dict_op around (row.Compare o) place (a ∷ b ∷ []) w) place fails
      (as_before known around b a n m is w (FirstIsThere m) (λ p. HasLooking p around.layout) 0 (row.Compare o) asks (lower_dict_op around (row.Compare o) place (a ∷ b ∷ []) w) (lower_dict_op around (row.Compare o) place (key2 ∷ dict2 ∷ []) next2) place (key2 ∷ dict2 ∷ []) same
      (λ p numbers raised core has. (has.0, tt)) done))

pub within_is_done : KeysAreLookedFor compared.Within
unfolding compare of_second lower_dict_op
within_is_done known around place a b w n m is flags =
    told known around place a b w n m is flags compared.Within (λ v world. fails_so w.found.covered (λ b. b) v world) (written_same known around place a b w n m is false)
    (within_is known around place (the_key known around b a n m is w) (the_dict known around b a n m is w) (w2 known around b a n m is w) n m (as_it_is known around b a n m is w) flags)

pub not_within_is_done : KeysAreLookedFor compared.NotWithin
unfolding compare of_second lower_dict_op
not_within_is_done known around place a b w n m is flags =
    told known around place a b w n m is flags compared.NotWithin (λ v world. fails_so w.found.covered not v world) (written_same known around place a b w n m is true)
    (not_within_is known around place (the_key known around b a n m is w) (the_dict known around b a n m is w) (w2 known around b a n m is w) n m (as_it_is known around b a n m is w) flags)
