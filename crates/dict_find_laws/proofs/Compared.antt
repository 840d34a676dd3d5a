-- An entry that the index names is compared: its key is read from the first array or from behind the index, and the next place is told.
use Rattle.std.proofs.Common.{◌≡◌, ◌<◌, ◌≤◌, ℕ, suc, ◌+◌, ◌-◌, ◌^◌, Bool, true, false, List, ◌++◌, length, Some, Ok, pos, refl, sym, ap, ◌∙◌, arith, length-append}
use Rattle.std.specs.Prelude.{None}
use Rattle.std.proofs.lemmas.List.{length-map}
use Rattle.csub_tree.specs.State.{Value, Word, Core}
use Rattle.csub_tree.specs.Layout.{shape_at, shape_over}
use Rattle.csub_tree.specs.Operation.{is_unset}
use Rattle.csub_tree.specs.Statement.{read}
use Rattle.ll_code.specs.Machine.{shapes_of}
use Rattle.ll_code.specs.declared.program.LlType.{LlType}
use Rattle.ll_code.specs.declared.program.LlOp.{LlOp}
use Rattle.ll_code.specs.declared.program.LlProgram.{LlProgram}
use Rattle.ll_leads.proofs.Ways.{on, one, gives}
use Rattle.ll_texts.specs.Texts.{found}
use Rattle.ll_texts.proofs.Numbers.{adds, subs}
use Rattle.rtyper_layout.specs.declared.dicts.Mapping.{Mapping}
use Rattle.rtyper_dict.specs.Looking.{find_compares, find_reads}
use Rattle.dict_laws.specs.Index.{next}
use Rattle.object_laws.specs.Dicts.{items_block, index_values}
use Rattle.object_laws.proofs.Blocks.{reads_item}
use Rattle.dict_find_laws.proofs.Keyed.{Tests}
use Rattle.dict_laws.proofs.Masked.{masks_lead, two_more}
use Rattle.dict_find_laws.proofs.Probing.{Compares, read_behind}
use Rattle.dict_find_laws.proofs.Shaped.{shaped}

module _ (p : LlProgram) (args : List (List ℕ)) (f hashes : ℕ) (m : Mapping) (c : Bool) (types : List LlType) (test : ℕ → ℕ → LlOp) (core : Core) (head x v4 two : Value) (bits : ℕ) (few : bits < 63) (has : ℕ → Bool) (count : ℕ) (small : count < 2 ^ 62) (keys : List Value)
    (tests : (entry : ℕ) → entry < count → Tests p args core test x (read keys entry) (has entry)) (sets : (entry : ℕ) → entry < count → is_unset (read keys entry) ≡ false) where
  most : 2 ^ bits ≤ 2 ^ 62
  most = two_more bits 62 (omega (arith, few))

  -- the keys stand behind the index
  pub compares_last : (t : LlType) (words : List ℕ) → length words ≡ 2 ^ bits → (long : count ≤ length keys) → shape_at (shapes_of p.structs) (shaped m true c t).second ≡ shape_over (shaped m true c t).second 1 None
      → found core.blocks core.statics two ≡ Some (items_block (shaped m true c t).second (index_values words ++ keys)) → Compares p args f hashes (shaped m true c t) types (test 14 17) core head x v4 two (2 ^ bits) (2 ^ bits - 1) has count
  unfolding find_compares find_reads
  compares_last t words size long seconds second_is at entry r waits lt inside = (
    (Word (pos (2 ^ bits + entry)), read keys entry),
    on (gives (Word (pos entry)) (subs (suc entry) 1 entry (omega arith) (omega (arith, inside, small))))
        (on (gives (Word (pos (2 ^ bits + entry))) (adds (2 ^ bits) entry (omega (arith, inside, small, most))))
        (on (reads_item 1 (items_block (shaped m true c t).second (index_values words ++ keys)) (read keys entry) seconds second_is refl (sets entry inside) (2 ^ bits + entry) refl
        (let a = length-append (index_values words) keys in let b = length-map words (λ (n : ℕ). Word (pos n)) in omega (arith, a, b, size, long, inside)) (ap (λ n. read (index_values words ++ keys) (n + entry)) (sym size) ∙ read_behind words keys entry))
        (on (gives (Word (pos (at + 1))) (adds at 1 (omega (arith, lt, most))))
        (on (gives (Word (pos (next (2 ^ bits) at))) (ap (λ z. Ok (Word z)) ((masks_lead bits few).1 at lt)))
        (tests entry inside 14 17 _ _ waits _ _ _ _ refl refl))))),
  )

  -- the keys stand in the first array
  pub compares_first : (t : LlType) → (long : count ≤ length keys) → shape_at (shapes_of p.structs) (shaped m false c t).first ≡ shape_over (shaped m false c t).first 1 None
      → found core.blocks core.statics v4 ≡ Some (items_block (shaped m false c t).first keys) → Compares p args f hashes (shaped m false c t) types (test 14 17) core head x v4 two (2 ^ bits) (2 ^ bits - 1) has count
  unfolding find_compares find_reads
  compares_first t long firsts first_is at entry r waits lt inside = (
    (Word (pos entry), read keys entry),
    on (gives (Word (pos entry)) (subs (suc entry) 1 entry (omega arith) (omega (arith, inside, small))))
        (on (one refl refl)
        (on (reads_item 1 (items_block (shaped m false c t).first keys) (read keys entry) firsts first_is refl (sets entry inside) entry refl (omega (arith, long, inside)) refl)
        (on (gives (Word (pos (at + 1))) (adds at 1 (omega (arith, lt, most))))
        (on (gives (Word (pos (next (2 ^ bits) at))) (ap (λ z. Ok (Word z)) ((masks_lead bits few).1 at lt)))
        (tests entry inside 14 17 _ _ waits _ _ _ _ refl refl))))),
  )
