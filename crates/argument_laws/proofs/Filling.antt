-- The loops that read the arguments: the bytes of one, and one after the other.
use Rattle.std.proofs.Common.{◌≡◌, ◌<◌, ℕ, suc, ◌+◌, ◌^◌, true, false, List, [], ◌∷◌, ◌++◌, length, map, Option, Some, None, pos, refl, sym, ap, ◌∙◌, subst, arith, append_assoc, length-append}
use Rattle.std.specs.Prelude.{slice_get}
use Rattle.std.proofs.lemmas.List.{append-nil}
use Rattle.csub_tree.specs.State.{Value, Unset, Word, Byte, Flag, Ptr, Block, Core}
use Rattle.csub_tree.specs.Layout.{Shape as StructShape, shape_at, shape_over}
use Rattle.ll_code.specs.State.{Frame, State, At}
use Rattle.ll_code.specs.Machine.{shapes_of}
use Rattle.ll_code.specs.declared.program.LlProgram.{LlProgram}
use Rattle.ll_leads.specs.Memory.{forgotten}
use Rattle.ll_leads.specs.Path.{Leads}
use Rattle.ll_leads.proofs.Joined.{leads_then, leads_more}
use Rattle.ll_leads.proofs.Ways.{on, many, gives, turns, makes}
use Rattle.ll_texts.specs.Follows.{text_blocks}
use Rattle.ll_texts.specs.Texts.{AreBytes, HasText, text_block}
use Rattle.ll_texts.proofs.Numbers.{less_true, less_false, adds}
use Rattle.ll_texts.proofs.Reading.{get_mid}
use Rattle.ll_texts.proofs.Writing.{part_block, writes_length, writes_byte}
use Rattle.list_shape.specs.declared.shape.Shape.{Shape}
use Rattle.list_shape.specs.Shapes.{gives as gives_block}
use Rattle.list_texts.specs.Arguments.{arguments_graph, types, asks, next_text, text_asks, next_byte, text_done, first_blocks, last_blocks}
use Rattle.list_laws.proofs.Copying.{array_with}
use Rattle.list_copy_laws.proofs.Fresh.{raw}
use Rattle.object_laws.specs.Represents.{head_block}
use Rattle.object_laws.proofs.Calling.{Returns}
use Rattle.dict_find_laws.proofs.Pairing.{pointers, writes_between}
use Rattle.dict_find_laws.proofs.Restored.{byte_back}
use Rattle.argument_laws.specs.Arguments.{AreTexts}
use Rattle.argument_laws.proofs.Reading.{gets_count, gets_one}

map_same : (pre post : List ℕ) → map Byte (pre ++ post) ≡ map Byte pre ++ map Byte post
map_same [] post = refl
map_same (b ∷ pre) post = ap (λ l. Byte b ∷ l) (map_same pre post)

module _ (p : LlProgram) (args : List (List ℕ)) (f makes_number : ℕ) (s : Shape) (graph : slice_get p.graphs f ≡ Some (arguments_graph makes_number s)) (texts : HasText p) (arrays : shape_at (shapes_of p.structs) s.array ≡ shape_over s.array 1 None)
    (core : Core) (waits : List Frame) (k : ℕ) (all_long : length args ≡ k) (few : k < 2 ^ 63) where
  abbrev pub bs : List (Option Block)
  bs = core.blocks

  abbrev pub array : Value
  array = Ptr (length bs)

  abbrev pub list : Value
  list = Ptr (length bs + 1)

  abbrev text_at : ℕ → Value
  text_at j = Ptr (length bs + 2 + j)

  -- memory with so many items and these strings
  abbrev pub mem : List Value → List (Option Block) → List (Option Block)
  mem items ts = bs ++ Some (array_with s.array (Word (pos k) ∷ []) items) ∷ Some (head_block s.list k array) ∷ ts

  -- what stands in the other variables
  pub record Others : Type 0 where
    pub v4 : Value
    pub v5 : Value
    pub v6 : Value
    pub v7 : Value
    pub v8 : Value
    pub v9 : Value
    pub v10 : Value

  abbrev pub vars : ℕ → Others → List Value
  vars j r = list ∷ array ∷ Word (pos k) ∷ Word (pos j) ∷ r.v4 ∷ r.v5 ∷ r.v6 ∷ r.v7 ∷ r.v8 ∷ r.v9 ∷ r.v10 ∷ []

  abbrev pub over : ℕ → ℕ → ℕ → Others → List (Option Block) → Core
  over block at j r blocks = record core { function = f; block = block; at = at; vars = vars j r; blocks = blocks }

  abbrev pub asking : ℕ → Others → List Value → List (Option Block) → State
  asking j r items ts = At asks.ops asks.exit waits (over 1 0 j r (mem items ts))

  -- ---- the bytes of one argument

  module _ (text : List ℕ) (j : ℕ) (here : slice_get args j ≡ Some text) (short : length text < 2 ^ 63) (items : List Value) (ts : List (Option Block)) where
    abbrev so_far : List (Option Block)
    so_far = mem items ts

    abbrev in_text : ℕ → Others → Others
    in_text i r = record r { v5 = Word (pos (length text)); v6 = Ptr (length so_far); v7 = Word (pos i) }

    abbrev part : List Value → List (Option Block)
    part written = so_far ++ Some (part_block (Word (pos (length text)) ∷ []) written) ∷ []

    abbrev texting : ℕ → Others → List Value → State
    texting i r written = At text_asks.ops text_asks.exit waits (over 3 0 j (in_text i r) (part written))

    abbrev texted : Others → State
    texted r = At (text_done s.array).ops (text_done s.array).exit waits (over 5 0 j (record r { v5 = Word (pos (length text)); v6 = Ptr (length so_far) }) (so_far ++ Some (text_block text) ∷ []))

    pub record Written (from : State) : Type 0 where
      pub r : Others
      pub way : Leads p args 0 from [] (texted r)

    bytes : (pre post : List ℕ) (i : ℕ) (r : Others) → text ≡ pre ++ post → i ≡ length pre → AreBytes post → Written (texting i r (map Byte pre ++ raw (length post)))
    unfolding arguments_graph types first_blocks last_blocks text_asks next_byte text_done
    bytes pre [] i r are at small =
        let whole : length text ≡ length pre = ap length are ∙ ap length (append-nil pre) in
        let same : map Byte pre ++ [] ≡ map Byte text = append-nil (map Byte pre) ∙ sym (ap (map Byte) (are ∙ append-nil pre)) in
        record {
          r = record (in_text i r) { v4 = Flag false };
          way = on (gives (Flag false) (less_false i (length text) (omega (arith, whole, at))))
              (subst (λ l. Leads p args 0 (At [] text_asks.exit waits (over 3 1 j (record (in_text i r) { v4 = Flag false }) (part (map Byte pre ++ [])))) [] (At (text_done s.array).ops (text_done s.array).exit waits (over 5 0 j (record (in_text i r) { v4 = Flag false }) (part l)))) same
              (many 1 graph refl refl));
        }
    bytes pre (b ∷ post) i r are at small =
        let whole = ap length are in
        let total = length-append pre (b ∷ post) in
        let lt : i < length text = omega (arith, whole, total, at) in
        let byte_here : slice_get text i ≡ Some b = ap (λ l. slice_get l i) are ∙ get_mid pre b post i at in
        let next : Others = record (in_text i r) { v4 = Flag true; v8 = Word (pos b); v9 = Byte b; v10 = Word (pos (i + 1)) } in
        let long = length-append pre (b ∷ []) in
        let rest = bytes (pre ++ b ∷ []) post (i + 1) next (are ∙ sym (append_assoc pre (b ∷ []) post)) (omega (arith, at, long)) small.1 in
        let place : i ≡ length (map Byte pre) = at ∙ sym (length-map-byte pre) in
        let grown : map Byte pre ++ Byte b ∷ raw (length post) ≡ map Byte (pre ++ b ∷ []) ++ raw (length post) = sym (append_assoc (map Byte pre) (Byte b ∷ []) (raw (length post))) ∙ ap (λ l. l ++ raw (length post)) (sym (map_same pre (b ∷ []))) in
        record {
          r = rest.r;
          way = on (gives (Flag true) (less_true i (length text) lt))
              (on (many 1 graph refl refl)
              (on (gets_one j i b text refl refl here byte_here)
              (on (turns (Byte b) (byte_back b small.0))
              (on (writes_byte so_far (Word (pos (length text)) ∷ []) (map Byte pre) (raw (length post)) Unset i b (part (map Byte (pre ++ b ∷ []) ++ raw (length post))) texts refl refl refl place refl (ap part grown))
              (on (gives (Word (pos (i + 1))) (adds i 1 (omega (arith, lt, short))))
              (on (many 1 graph refl refl)
              rest.way))))));
        }
      where
        length-map-byte : (l : List ℕ) → length (map Byte l) ≡ length l
        length-map-byte [] = refl
        length-map-byte (c ∷ l) = ap suc (length-map-byte l)

  -- ---- all of them

  from_next : {most : ℕ} {t : State} (j : ℕ) (r : Others) (before after : List Value) (ts : List (Option Block)) → j + 1 ≡ suc j → before ≡ after → Leads p args most (asking (suc j) r before ts) [] t → Leads p args most (asking (j + 1) r after ts) [] t
  from_next {most = most} {t = t} j r before after ts h e way = subst (λ n. Leads p args most (asking n r after ts) [] t) (sym h) (subst (λ l. Leads p args most (asking (suc j) r l ts) [] t) e way)

  -- so many blocks stand before the next string
  place_of : (items : List Value) (ts : List (Option Block)) (j : ℕ) → length ts ≡ j → length (mem items ts) ≡ length bs + 2 + j
  place_of items ts j h = (let q = length-append bs (Some (array_with s.array (Word (pos k) ∷ []) items) ∷ Some (head_block s.list k array) ∷ ts) in omega (arith, q, h))

  turn : (done : List Value) (before : List (List ℕ)) (text : List ℕ) (rest : List (List ℕ)) (j : ℕ) (r : Others) (ts : List (Option Block)) → args ≡ before ++ text ∷ rest → j ≡ length before → length done ≡ j → length ts ≡ j → length text < 2 ^ 63 → AreBytes text
      → ((r : Others) → Returns p args (length rest) (asking (suc j) r ((done ++ text_at j ∷ []) ++ raw (length rest)) (ts ++ Some (text_block text) ∷ [])) list waits (record core { blocks = mem ((done ++ text_at j ∷ []) ++ pointers (length bs) (suc j) (length rest)) ((ts ++ Some (text_block text) ∷ []) ++ text_blocks rest) }))
      → Returns p args (length (text ∷ rest)) (asking j r (done ++ raw (length (text ∷ rest))) ts) list waits (record core { blocks = mem (done ++ pointers (length bs) j (length (text ∷ rest))) (ts ++ text_blocks (text ∷ rest)) })
  unfolding arguments_graph types first_blocks last_blocks asks next_text text_asks text_done
  turn done before text rest j r ts are at done_long ts_long short small after =
      let total = length-append before (text ∷ rest) in
      let whole = ap length are in
      let lt : j < k = omega (arith, total, whole, all_long, at) in
      let here : slice_get args j ≡ Some text = ap (λ l. slice_get l j) are ∙ get_mid before text rest j at in
      let items : List Value = done ++ raw (length (text ∷ rest)) in
      let m : List (Option Block) = mem items ts in
      let y_is : Ptr (length m) ≡ text_at j = ap Ptr (place_of items ts j ts_long) in
      let written = bytes text j here short items ts [] text 0 (record r { v4 = Flag true; v5 = Word (pos (length text)); v6 = Ptr (length m) }) refl refl small in
      let there : Others = record written.r { v5 = Word (pos (length text)); v6 = Ptr (length m); v10 = Word (pos (j + 1)) } in
      let ends = after there in
      let one_more : j + 1 ≡ suc j = omega arith in
      let same : (done ++ text_at j ∷ []) ++ raw (length rest) ≡ done ++ text_at j ∷ raw (length rest) = append_assoc done (text_at j ∷ []) (raw (length rest)) in
      let grown : m ++ Some (text_block text) ∷ [] ≡ mem items (ts ++ Some (text_block text) ∷ []) = append_assoc bs (Some (array_with s.array (Word (pos k) ∷ []) items) ∷ Some (head_block s.list k array) ∷ ts) (Some (text_block text) ∷ []) in
      record {
        end = ends.end;
        same = ends.same ∙ ap (λ l. forgotten (record core { blocks = l }))
            (ap (λ l. mem l ((ts ++ Some (text_block text) ∷ []) ++ text_blocks rest)) (append_assoc done (text_at j ∷ []) (pointers (length bs) (suc j) (length rest))) ∙ ap (mem (done ++ text_at j ∷ pointers (length bs) (suc j) (length rest))) (append_assoc ts (Some (text_block text) ∷ []) (text_blocks rest)));
        leads = leads_more (0 + (0 + (1 + (0 + length rest)))) (length (text ∷ rest)) (omega arith)
            (leads_then (on (gives (Flag true) (less_true j k lt)) (on (many 1 graph refl refl) (on (gets_count j text refl here) (on (makes (length text) 1 refl (ap (λ (s : StructShape). s.size) texts)) (on (writes_length m Unset (raw (length text)) (pos (length text)) texts refl refl refl) (many 1 graph refl refl))))))
            (leads_then written.way
            (leads_then (writes_between 1 bs (Some (head_block s.list k array) ∷ (ts ++ Some (text_block text) ∷ [])) (Word (pos k) ∷ []) done (raw (length rest)) Unset (text_at j) arrays grown refl (ap (λ n. Word (pos n)) (sym done_long)) y_is refl)
            (leads_then {t = asking (j + 1) there (done ++ text_at j ∷ raw (length rest)) (ts ++ Some (text_block text) ∷ [])} (on (gives (Word (pos (j + 1))) (adds j 1 (omega (arith, lt, few)))) (many {t = asking (j + 1) there (done ++ text_at j ∷ raw (length rest)) (ts ++ Some (text_block text) ∷ [])} 1 graph refl refl))
            (from_next j there ((done ++ text_at j ∷ []) ++ raw (length rest)) (done ++ text_at j ∷ raw (length rest)) (ts ++ Some (text_block text) ∷ []) one_more same ends.leads)))));
      }

  pub fills : (done : List Value) (before rest : List (List ℕ)) (j : ℕ) (r : Others) (ts : List (Option Block)) → args ≡ before ++ rest → j ≡ length before → length done ≡ j → length ts ≡ j → AreTexts rest → Returns p args (length rest) (asking j r (done ++ raw (length rest)) ts) list waits (record core { blocks = mem (done ++ pointers (length bs) j (length rest)) (ts ++ text_blocks rest) })
  unfolding arguments_graph types first_blocks last_blocks asks gives_block
  fills done before [] j r ts are at done_long ts_long fine = record {
    end = _;
    same = ap (λ l. forgotten (record core { blocks = mem (done ++ []) l })) (sym (append-nil ts));
    leads = on (gives (Flag false) (less_false j k (let total = length-append before [] in let whole = ap length are in omega (arith, total, whole, all_long, at)))) (many 2 graph refl refl);
  }
  fills done before (text ∷ rest) j r ts are at done_long ts_long fine =
      turn done before text rest j r ts are at done_long ts_long fine.0.0 fine.0.1 (λ r. fills (done ++ text_at j ∷ []) (before ++ text ∷ []) rest (suc j) r (ts ++ Some (text_block text) ∷ []) (are ∙ sym (append_assoc before (text ∷ []) rest)) (let q = length-append before (text ∷ []) in omega (arith, q, at)) (let q = length-append done (text_at j ∷ []) in omega (arith, q, done_long))
      (let q = length-append ts (Some (text_block text) ∷ []) in omega (arith, q, ts_long)) fine.1)
