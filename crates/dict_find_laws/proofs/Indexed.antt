-- Looking by the index: from the call to the loop.
use Rattle.std.proofs.Common.{◌≡◌, ◌<◌, ◌≤◌, ℕ, ◌+◌, ◌-◌, ◌^◌, ◌||◌, ℤ, Bool, false, List, [], ◌∷◌, ◌++◌, length, Option, Some, None, Ok, pos, refl, ap, arith, length-append}
use Rattle.std.specs.Ordering.{int_eq}
use Rattle.std.proofs.lemmas.Bool.Decides.{nat_tests}
use Rattle.std.proofs.lemmas.List.{length-map}
use Rattle.csub_tree.specs.State.{Value, Unset, Word, Flag, Core}
use Rattle.csub_tree.specs.Layout.{shape_at, shape_over}
use Rattle.csub_tree.specs.Operation.{is_unset, binary_of}
use Rattle.csub_tree.specs.declared.tree.CBinary.TheVariants as binary
use Rattle.ll_code.specs.Machine.{shapes_of}
use Rattle.ll_code.specs.State.{Frame, Calling, At}
use Rattle.ll_code.specs.declared.program.LlType.{LlType}
use Rattle.ll_code.specs.declared.program.LlType.TheVariants as type
use Rattle.ll_code.specs.declared.program.LlOp.{LlOp}
use Rattle.ll_code.specs.declared.program.LlExit.{LlExit}
use Rattle.ll_code.specs.declared.program.LlProgram.{LlProgram}
use Rattle.ll_leads.specs.Path.{Leads}
use Rattle.ll_leads.proofs.Ways.{Comes, on, many, enter, gives, call}
use Rattle.ll_texts.specs.Texts.{found}
use Rattle.ll_texts.proofs.Numbers.{subs}
use Rattle.rtyper_dict.specs.declared.parts.DictShape.{DictShape}
use Rattle.rtyper_dict.specs.Looking.{find_graph, find_blocks, find_asks, find_starts, find_probes, find_reads, find_compares, find_types}
use Rattle.rtyper_dict.specs.Parts.{first_of_keys}
use Rattle.dict_laws.specs.Index.{Holds, Looks}
use Rattle.dict_laws.specs.Masks.{place_of}
use Rattle.object_laws.specs.Dicts.{dict_block, items_block, index_values}
use Rattle.object_laws.proofs.Blocks.{found_set, reads_field}
use Rattle.dict_find_laws.specs.Finding.{place_word}
use Rattle.dict_laws.proofs.Masked.{masks_lead, two_more}
use Rattle.dict_find_laws.proofs.Probing.{Graph, Others, Compares, looks}

not_none : (n : ℕ) → 0 < n → binary_of binary.Eq (Word (pos n)) (Word (pos 0)) ≡ Ok (Flag false)
not_none n h = ap (λ b. Ok (Flag b)) (let e : int_eq (pos n) (pos 0) ≡ false = grind (arith, nat_tests, h) in e)

module _ (p : LlProgram) (args : List (List ℕ)) (f hashes : ℕ) (d : DictShape) (test : LlOp) (core : Core) (head x v4 one two : Value) (count places : ℕ) where
  abbrev pub types : List LlType
  types = find_types d ++ type.Bool ∷ []

  abbrev pub started : Value → List Value
  started v = head ∷ x ∷ Word (pos places) ∷ Flag false ∷ v ∷ Unset ∷ Unset ∷ Unset ∷ Unset ∷ Unset ∷ Unset ∷ Unset ∷ Unset ∷ Unset ∷ Unset ∷ Unset ∷ Unset ∷ Unset ∷ []

  -- what reads the first array, where that holds the keys
  abbrev pub ReadsFirst : Type 0
  ReadsFirst = (ops : List LlOp) (e : LlExit) (waits : List Frame) → Leads p args 0 (At (first_of_keys 4 d 0 ∷ ops) e waits (record core { function = f; block = 2; at = 0; vars = started Unset })) [] (At ops e waits (record core { function = f; block = 2; at = 1; vars = started v4 }))

  module _ (graph : Graph p args f hashes d types test core head x v4 two 0 0) (x_set : is_unset x ≡ false) (heads : shape_at (shapes_of p.structs) d.dict ≡ shape_over d.dict 4 None)
      (head_is : found core.blocks core.statics head ≡ Some (dict_block d.dict count places one two)) where
    head_set : is_unset head ≡ false
    head_set = found_set core.blocks core.statics head _ head_is

    -- a dict without places has no entries
    pub none_found : places ≡ 0 → (waits : List Frame) → Comes p args (Calling f (head ∷ x ∷ []) waits core) [] (place_word None) waits core
    unfolding find_graph find_blocks find_asks find_starts find_probes find_reads find_compares find_types
    none_found none waits = record {
      end = _;
      same = refl;
      leads = on (enter graph refl) (on (reads_field 4 (dict_block d.dict count places one two) (Word (pos 0)) heads head_is refl refl 1 (ap (λ n. Word (pos n)) none)) (many 3 graph refl refl));
    }

    module _ (some : 0 < places) (v4_set : is_unset v4 ≡ false) (two_set : is_unset two ≡ false) (reads_first : ReadsFirst) (bits size : ℕ) (few : bits < 63) (size_is : size ≡ 2 ^ bits) (words : List ℕ) (long : length words ≡ size) (rest : List Value) (rest_long : length rest ≡ places) (small : places < 2 ^ 62)
        (seconds : shape_at (shapes_of p.structs) d.second ≡ shape_over d.second 1 None) (second_is : found core.blocks core.statics two ≡ Some (items_block d.second (index_values words ++ rest)))
        (hash : ℤ) (hashed : (function block at : ℕ) (vars : List Value) (waits : List Frame) → Comes p args (Calling hashes (x ∷ []) waits (record core { function = function; block = block; at = at; vars = vars })) [] (Word hash) waits (record core { function = function; block = block; at = at; vars = vars }))
        (has : ℕ → Bool) (known : (at entry : ℕ) → Holds words at entry → entry < count) (compares : Compares p args f hashes d types test core head x v4 two size (2 ^ bits - 1) has count) where
      most : size ≤ 2 ^ 62
      most = (let q = two_more bits 62 (omega (arith, few)) in omega (arith, q, size_is))

      whole_long : length (index_values words ++ rest) ≡ size + places
      whole_long = (let a = length-append (index_values words) rest in let b = length-map words (λ (n : ℕ). Word (pos n)) in omega (arith, a, b, long, rest_long))

      abbrev start : ℕ
      start = place_of bits hash

      pub key_found : (end : Option ℕ) → Looks words has start end → (waits : List Frame) → Comes p args (Calling f (head ∷ x ∷ []) waits core) [] (place_word end) waits core
      unfolding find_graph find_blocks find_asks find_starts find_probes find_reads find_compares find_types
      key_found end it waits =
          let lead = (masks_lead bits few).0 hash in
          let others : Others = record { v2 = Word (pos places); v3 = Flag false; v6 = Word (pos (size + places)); v8 = Word hash; v11 = Unset; v12 = Unset; v13 = Unset; v14 = Unset; v15 = Unset; v16 = Unset; v17 = Unset } in
          let go = looks p args f hashes d types test core head x v4 two size (2 ^ bits - 1) has count graph x_set v4_set two_set words long rest second_is seconds known compares waits start end others it (omega (arith, lead.1, size_is)) in
          record {
            end = go.end;
            same = go.same;
            leads =
                on (enter graph refl) (on (reads_field 4 (dict_block d.dict count places one two) (Word (pos places)) heads head_is refl refl 1 refl)
                (on (gives (Flag false) (not_none places some)) (on (many 1 graph refl (simp (head_set, x_set)))
                (on (reads_first _ _ waits) (on (reads_field 4 (dict_block d.dict count places one two) two heads head_is refl two_set 3 refl)
                (on (reads_field 1 (items_block d.second (index_values words ++ rest)) (Word (pos (size + places))) seconds second_is refl refl 0 (ap (λ n. Word (pos n)) whole_long))
                (on (gives (Word (pos size)) (subs (size + places) places size (omega arith) (omega (arith, most, small))))
                (on (call (ap (λ b. b || false) x_set) (λ waits. hashed _ _ _ _ waits))
                (on (gives (Word (pos (2 ^ bits - 1))) (subs size 1 (2 ^ bits - 1) (omega (arith, size_is, lead.1)) (omega (arith, most))))
                (on (gives (Word (pos start)) (ap (λ z. Ok (Word z)) lead.0)) (on (many 1 graph refl (simp (x_set, v4_set, two_set))) go.leads)))))))))));
          }
