-- What stands for a constant is its value, where the statics that are asked for stay, and the sites that are made are at theirs.
use Rattle.std.proofs.Common.{◌≡◌, ◌<◌, ℕ, zero, suc, ◌^◌, ◌==◌, ◌&&◌, ◌||◌, Bool, true, false, List, ◌∷◌, ◌++◌, length, map, take, drop, slice_get, Option, Some, None, pos, refl, sym, ap, ◌∙◌, subst, arith, []}
use Rattle.std.specs.Prelude.{if◌then◌else◌, is_some}
use Rattle.std.proofs.lemmas.List.{append-nil}
use Rattle.ann_element.specs.declared.element.Element.{Element}
use Rattle.csub_tree.specs.State.{Value, Word, Byte, Flag, Static, Block}
use Rattle.csub_tree.specs.Layout.{Shape, shape_at, shape_over, constant, joined, cell_constants, cell_step, static_block}
use Rattle.csub_tree.specs.declared.tree.CCell.{CCell, fold-roll-CCell}
use Rattle.csub_tree.specs.declared.tree.CCell.TheOpen.{CCell-F}
use Rattle.csub_tree.specs.declared.tree.CCell.TheVariants as cell
use Rattle.csub_tree.specs.declared.tree.CConst.{CConst}
use Rattle.csub_tree.specs.declared.tree.CConst.TheVariants as low
use Rattle.csub_tree.specs.declared.tree.CStatic.{CStatic}
use Rattle.ll_code.specs.Machine.{shapes_of}
use Rattle.ll_code.specs.declared.program.LlType.{LlType}
use Rattle.ll_code.specs.declared.program.LlType.TheVariants as type
use Rattle.ll_code.specs.declared.program.LlProgram.{LlProgram}
use Rattle.ll_texts.specs.Texts.{text_block, AreBytes, counted_shape}
use Rattle.rpy_tree.specs.Value.{Value as Meant, Object, Text, Nothing, Word as MeantWord, Flag as MeantFlag}
use Rattle.rpy_tree.specs.declared.program.Const.{Const, fold-roll-Const, map-Const, ind-Const}
use Rattle.rpy_tree.specs.declared.program.Const.TheOpen.{Const-F}
use Rattle.rpy_tree.specs.declared.program.Const.TheVariants as const
use Rattle.rpy_tree.specs.declared.program.Site.{Site}
use Rattle.rpy_meaning.specs.Operations.{constant as meant_of, constant_step as meant_step, object_of}
use Rattle.rpy_meaning.specs.Sequences.{tuple}
use Rattle.rtyper_layout.specs.declared.dicts.Mapping.{Mapping}
use Rattle.rtyper_layout.specs.declared.layout.Layout.{Layout}
use Rattle.rtyper_layout.specs.Kinds.{kind_seen}
use Rattle.rtyper_layout.specs.Layout.{is_list, is_tuple, mapping_at}
use Rattle.rtyper_layout.specs.Types.{type_of, type_seen, shape, field_type}
use Rattle.rtyper_data.specs.declared.found.Found.{Found}
use Rattle.rtyper_data.specs.Converting.{default_constant}
use Rattle.rtyper_data.specs.Finding.{placed, static_from, static_of, prebuilt_at}
use Rattle.rtyper_data.specs.Seen.{Around}
use Rattle.rtyper_data.specs.Tuples.{fields_of}
use Rattle.rtyper_list.specs.Operands.{of_list}
use Rattle.rtyper_op.specs.Constants.{char_cell, text_cells, text as text_as, function_by, function_of, constant_of, constant_step, parts_of, tuple as tuple_as, static_tuple, static_text, prebuilt, prebuilt_by}
use Rattle.rtyper_op.specs.Prebuilt.{is_ready, ready_step, are_true}
use Rattle.growth_laws.specs.Growing.{Begins}
use Rattle.growth_laws.proofs.Fronts.{further, itself, stays}
use Rattle.growth_laws.proofs.Growing.{statics_grow}
use Rattle.growth_laws.proofs.Operating.{constant_of_grows}
use Rattle.lower_laws.specs.Values.{is_plain}
use Rattle.lower_laws.proofs.Stayed.{field_is}
use Rattle.lower_laws.proofs.Typing.{place_of_words, place_of_flags, place_of_bytes, place_of_none}
use Rattle.object_laws.specs.Done.{HasLayout}
use Rattle.object_laws.specs.Ghost.{Ghost, Stays, use_of}
use Rattle.object_laws.specs.Known.{Known}
use Rattle.object_laws.specs.Represents.{is_settled}
use Rattle.object_laws.specs.Values as high
use Rattle.object_laws.specs.Values.{of_dict, Stands, Holds, Plain, Alone, Function, Items as HoldsItems, Listed as HoldsListed, Mapped as HoldsMapped, AllHold}
use Rattle.object_laws.proofs.Valued.{function_type}
use Rattle.conversion_laws.specs.Constants.{IsValue, AllValues, word, flag, byte, text, nothing, missing, function, items}
use Rattle.conversion_laws.specs.Constants as values
use Rattle.conversion_laws.specs.Going.{IsTuple, takes_text}
use Rattle.conversion_laws.proofs.Cells.{IsStatic, consts, consts_same, static_is, text_same}
use Rattle.conversion_laws.proofs.Constants.{value_typed}
use Rattle.conversion_laws.proofs.Valued.{missing_is, text_plain, texts_typed}
use Rattle.layout_laws.proofs.Places.{not_true}
use Rattle.start_laws.specs.Constants.{IsConstant, AllConstants, IsSite, Plain as IsPlain, Listed as IsListed, Mapped as IsMapped, Items as HasItems, End, Next}
use Rattle.start_laws.specs.Knowing.{sort_of}

-- ---- statics in memory

pub const_cell : (c : CConst) → cell_constants (cell.Const c) ≡ c ∷ []
const_cell c = ap cell_constants (sym (cell.rolls-Const c)) ∙ fold-roll-CCell (List CConst) cell_step (CCell-F.Const c)

pub joined_consts : (cs : List CConst) → joined (map cell_constants (consts cs)) ≡ cs
joined_consts [] = refl
joined_consts (c ∷ cs) = ap (λ l. l ++ joined (map cell_constants (consts cs))) (const_cell c) ∙ ap (λ l. c ∷ l) (joined_consts cs)

pub braces_cell : (cs : List CConst) → cell_constants (cell.Braces (consts cs)) ≡ cs
braces_cell cs = ap cell_constants (sym (cell.rolls-Braces (consts cs))) ∙ fold-roll-CCell (List CConst) cell_step (CCell-F.Braces (consts cs)) ∙ joined_consts cs

take_all : {A : Type 0} (xs : List A) (k : ℕ) → k ≡ length xs → take k xs ≡ xs
take_all [] zero h = refl
take_all [] (suc k) h = refl
take_all (x ∷ xs) zero h = absurd (omega (arith, h))
take_all (x ∷ xs) (suc k) h = ap (λ l. x ∷ l) (take_all xs k (omega (arith, h)))

drop_all : {A : Type 0} (xs : List A) (k : ℕ) → k ≡ length xs → drop k xs ≡ []
drop_all [] zero h = refl
drop_all [] (suc k) h = refl
drop_all (x ∷ xs) zero h = absurd (omega (arith, h))
drop_all (x ∷ xs) (suc k) h = drop_all xs k (omega (arith, h))

pub map_long : {A B : Type 0} (f : A → B) (xs : List A) → length (map f xs) ≡ length xs
map_long f [] = refl
map_long f (x ∷ xs) = ap suc (map_long f xs)

-- a static without items
abbrev pub flat_static : ℕ → List CConst → CStatic
flat_static n cs = record { kind = n; cells = consts cs }

pub flat_in : (shapes : List Shape) (n : ℕ) (cs : List CConst) → shape_at shapes n ≡ shape_over n (length cs) None → static_block shapes (flat_static n cs) ≡ record { kind = n; fields = map constant cs; items = [] }
flat_in shapes n cs h =
    let values : List Value = map constant cs in
    let long : length cs ≡ length values = sym (map_long constant cs) in
    ap (λ l. record { kind = n; fields = take (shape_at shapes n).size (map constant l); items = drop (shape_at shapes n).size (map constant l) }) (joined_consts cs)
    ∙ ap (λ (s : Shape). record { kind = n; fields = take s.size values; items = drop s.size values }) h
    ∙ ap (λ l. record { kind = n; fields = l; items = drop (length cs) values }) (take_all values (length cs) long)
    ∙ ap (λ l. record { kind = n; fields = values; items = l }) (drop_all values (length cs) long)

-- one with a length and items
abbrev pub array_static : ℕ → CConst → List CConst → CStatic
array_static n c cs = record { kind = n; cells = cell.Const c ∷ cell.Braces (consts cs) ∷ [] }

pub array_in : (shapes : List Shape) (n : ℕ) (c : CConst) (cs : List CConst) → shape_at shapes n ≡ shape_over n 1 None → static_block shapes (array_static n c cs) ≡ record { kind = n; fields = constant c ∷ []; items = map constant cs }
array_in shapes n c cs h =
    ap (λ l. record { kind = n; fields = take (shape_at shapes n).size (map constant l); items = drop (shape_at shapes n).size (map constant l) })
    (ap (λ l. l ++ (cell_constants (cell.Braces (consts cs)) ++ [])) (const_cell c) ∙ ap (λ l. c ∷ l) (append-nil (cell_constants (cell.Braces (consts cs))) ∙ braces_cell cs))
    ∙ ap (λ (s : Shape). record { kind = n; fields = take s.size (constant c ∷ map constant cs); items = drop s.size (constant c ∷ map constant cs) }) h

bytes_are : (bytes : List ℕ) → map constant (map low.Char bytes) ≡ map Byte bytes
bytes_are [] = refl
bytes_are (b ∷ bytes) = ap (λ l. Byte b ∷ l) (bytes_are bytes)

chars_are : (bytes : List ℕ) → map char_cell bytes ≡ consts (map low.Char bytes)
chars_are [] = refl
chars_are (b ∷ bytes) = ap (λ l. cell.Const (low.Char b) ∷ l) (chars_are bytes)

text_in : (shapes : List Shape) (bytes : List ℕ) → shape_at shapes 0 ≡ counted_shape 0 → static_block shapes (array_static 0 (low.Word (pos (length bytes))) (map low.Char bytes)) ≡ text_block bytes
text_in shapes bytes h =
    array_in shapes 0 (low.Word (pos (length bytes))) (map low.Char bytes) h ∙ ap (λ l. record { kind = 0; fields = Word (pos (length bytes)) ∷ []; items = l }) (bytes_are bytes)

-- ---- what a ghost has of what is asked for

or_true : (b : Bool) → (b || true) ≡ true
or_true true = refl
or_true false = refl

module _ (p : LlProgram) (layout : Layout) where
  abbrev pub block_of : CStatic → Block
  block_of static = static_block (shapes_of p.structs) static

  -- strings and tuples stay
  abbrev pub Texts : Ghost → List CStatic → Type 0
  Texts g statics = (s : ℕ) (static : CStatic) → slice_get statics s ≡ Some static → is_settled layout static.kind ≡ true → use_of g (Static s) ≡ Some (Stays (block_of static))

  pub texts_before : (g : Ghost) (xs ys : List CStatic) → Begins xs ys → Texts g ys → Texts g xs
  texts_before g xs ys b t s static h = t s static (stays xs ys s static b h)

module _ (p : LlProgram) (around : Around) (known : Known) (sites : List Site) (same : List ℕ) (has : HasLayout p around.layout) where
  abbrev layout : Layout
  layout = around.layout

  abbrev objects : List (Option Object)
  objects = known.program.sites

  -- those that are made stand at their statics
  abbrev pub Homes : Ghost → List (ℕ × ℕ) → Type 0
  Homes g made = (dict : Bool) (site n number : ℕ) → IsSite around known sites same dict site n → prebuilt_at made site ≡ Some number
      → slice_get g.homes (object_of objects site) ≡ Some (record { sort = sort_of dict n; head = Static number })

  -- a string
  text_is : (bytes : List ℕ) (found : Found) → text_as bytes (type.Ptr 0) found ≡ static_of 0 (text_cells bytes) found
  text_is [] found = refl
  text_is (b ∷ []) found = refl
  text_is (b ∷ c ∷ bytes) found = refl

  abbrev Has : Option Element → Found → Ghost → CConst × Found → Meant → Type 0
  Has seen found g made v = Texts p layout g made.1.statics → Holds layout known g seen (constant made.0) v

  text_held : (seen : Option Element) (bytes : List ℕ) (found : Found) (g : Ghost) → takes_text (kind_seen seen) ≡ true → length bytes < 2 ^ 63 → AreBytes bytes → Has seen found g (text_as bytes (type_seen layout seen) found) (Text bytes)
  text_held seen bytes found g t short small =
      let cells : List CCell = cell.Const (low.Word (pos (length bytes))) ∷ cell.Braces (consts (map low.Char bytes)) ∷ [] in
      let is : text_as bytes (type_seen layout seen) found ≡ static_of 0 cells found = ap (λ s. text_as bytes s found) (texts_typed layout seen t) ∙ text_is bytes found ∙ ap (λ cs. static_of 0 (cell.Const (low.Word (pos (length bytes))) ∷ cell.Braces cs ∷ []) found) (chars_are bytes) in
      let it : IsStatic 0 cells (static_of 0 cells found) found = static_is 0 cells found (λ xs h. text_same xs (low.Word (pos (length bytes))) (map low.Char bytes) h) in
      subst (λ made. Has seen found g made (Text bytes)) (sym is)
      (λ texts.
      let stays : use_of g (Static it.number) ≡ Some (Stays (text_block bytes)) = texts it.number (array_static 0 (low.Word (pos (length bytes))) (map low.Char bytes)) it.there refl ∙ ap (λ b. Some (Stays b)) (text_in (shapes_of p.structs) bytes has.plain.text) in
      Plain (text_plain (kind_seen seen) t) (subst (λ s. Stands g s (constant (static_of 0 cells found).0) (Text bytes)) (sym (texts_typed layout seen t))
      (subst (λ c. Stands g (type.Ptr 0) (constant c) (Text bytes)) (sym it.constant) (high.text (Static it.number) bytes (record { is = stays; short = short; small = small })))))

  abbrev lower : Const → LlType → Found → CConst × Found
  lower c t found = constant_of around c t found

  abbrev meaning : Const → Meant
  meaning c = meant_of objects c

  at_type : (c : Const) (x : LlType → Found → CConst × Found) → constant_of around c ≡ x → (t : LlType) (found : Found) → lower c t found ≡ x t found
  at_type c x e t found = ap (λ f. f t found) e

  shape_long : (parts : List Element) → length (shape layout parts) ≡ length parts
  shape_long [] = refl
  shape_long (part ∷ parts) = ap suc (shape_long parts)

  -- the parts of a tuple
  record PartsHeld (parts : List Element) (cs : List Const) (g : Ghost) (made : List CCell × Found) : Type 0 where
    values : List CConst
    are : made.0 ≡ consts values
    long : length values ≡ length parts
    holds : Texts p layout g made.1.statics → AllHold layout known g parts (map constant values) (map meaning cs)

  begun : (n : ℕ) (cells : List CCell) (found : Found) → Begins found.statics (static_of n cells found).1.statics
  begun n cells found = (statics_grow n cells found).statics

  tuple_held : {seen : Option Element} (n : ℕ) (parts : List Element) (cs : List Const) (found : Found) (g : Ghost) → IsTuple layout seen n parts → PartsHeld parts cs g (parts_of (map (constant_of around) cs) (shape layout parts) found)
      → Has seen found g (lower (const.Tuple cs) (type_seen layout seen) found) (meaning (const.Tuple cs))
  tuple_held {seen = seen} n parts cs found g of it =
      let made : List CCell × Found = parts_of (map (constant_of around) cs) (shape layout parts) found in
      let start : lower (const.Tuple cs) (type_seen layout seen) found ≡ static_of n made.0 made.1 =
      at_type (const.Tuple cs) (tuple_as around (map (constant_of around) cs)) (ap (constant_of around) (sym (const.rolls-Tuple cs)) ∙ fold-roll-Const (LlType → Found → CConst × Found) (constant_step around) (Const-F.Tuple cs)) (type_seen layout seen) found
      ∙ ap (λ t. tuple_as around (map (constant_of around) cs) t found) of.typed
      ∙ ap (λ c. if c then static_tuple around n (parts_of (map (constant_of around) cs) (fields_of around n) found) else (low.Null, found)) of.struct
      ∙ ap (λ ts. static_tuple around n (parts_of (map (constant_of around) cs) ts found)) of.fields in
      let is : lower (const.Tuple cs) (type_seen layout seen) found ≡ static_of n (consts it.values) made.1 = start ∙ ap (λ cells. static_of n cells made.1) it.are in
      let st : IsStatic n (consts it.values) (static_of n (consts it.values) made.1) made.1 = static_is n (consts it.values) made.1 (λ xs h. consts_same xs it.values h) in
      let high_is : meaning (const.Tuple cs) ≡ tuple (map meaning cs) = ap (meant_of objects) (sym (const.rolls-Tuple cs)) ∙ fold-roll-Const Meant (meant_step objects) (Const-F.Tuple cs) in
      subst (λ made. Has seen found g made (meaning (const.Tuple cs))) (sym is)
      (λ texts.
      let shaped : shape_at (shapes_of p.structs) n ≡ shape_over n (length it.values) None = has.plain.tuples n of.struct ∙ ap (λ k. shape_over n k None) (ap length of.fields ∙ shape_long parts ∙ sym it.long) in
      let settled : is_settled layout n ≡ true = ap (λ c. (n == 0) || c) of.struct ∙ or_true (n == 0) in
      let block : Block = record { kind = n; fields = map constant it.values; items = [] } in
      let stays : use_of g (Static st.number) ≡ Some (Stays block) = texts st.number (flat_static n it.values) st.there settled ∙ ap (λ b. Some (Stays b)) (flat_in (shapes_of p.structs) n it.values shaped) in
      subst (λ c. Holds layout known g seen (constant c) (meaning (const.Tuple cs))) (sym st.constant)
      (HoldsItems parts n (map constant it.values) (map meaning cs) of.is high_is of.typed stays (it.holds (texts_before p layout g made.1.statics (static_of n (consts it.values) made.1).1.statics (begun n (consts it.values) made.1) texts))))

  str_is : (bytes : List ℕ) (seen : Option Element) (found : Found) → lower (const.Str bytes) (type_seen layout seen) found ≡ text_as bytes (type_seen layout seen) found
  str_is bytes seen found = at_type (const.Str bytes) (text_as bytes) (ap (constant_of around) (sym (const.rolls-Str bytes)) ∙ fold-roll-Const (LlType → Found → CConst × Found) (constant_step around) (Const-F.Str bytes)) (type_seen layout seen) found

  str_meant : (bytes : List ℕ) → meaning (const.Str bytes) ≡ Text bytes
  str_meant bytes = ap (meant_of objects) (sym (const.rolls-Str bytes)) ∙ fold-roll-Const Meant (meant_step objects) (Const-F.Str bytes)

  none_meant : meaning const.None ≡ Nothing
  none_meant = ap (meant_of objects) (sym const.rolls-None) ∙ fold-roll-Const Meant (meant_step objects) Const-F.None

  parts_begin : (cs : List Const) (fields : List LlType) (found : Found) → Begins found.statics (parts_of (map (constant_of around) cs) fields found).1.statics
  parts_begin [] fields found = itself found.statics
  parts_begin (c ∷ cs) [] found = itself found.statics
  parts_begin (c ∷ cs) (t ∷ ts) found = further found.statics (lower c t found).1.statics _ (constant_of_grows around c t found).statics (parts_begin cs ts (lower c t found).1)

  none_is : (seen : Option Element) (found : Found) → lower const.None (type_seen layout seen) found ≡ (default_constant (type_seen layout seen), found)
  none_is seen found = at_type const.None (λ t f. (default_constant t, f)) (ap (constant_of around) (sym const.rolls-None) ∙ fold-roll-Const (LlType → Found → CConst × Found) (constant_step around) Const-F.None) (type_seen layout seen) found

  alone : {seen : Option Element} {c : CConst} {found : Found} {g : Ghost} {v : Meant} {made : CConst × Found} → made ≡ (c, found) → Holds layout known g seen (constant c) v → Has seen found g made v
  alone {seen = seen} {found = found} {g = g} {v = v} h held = subst (λ made. Has seen found g made v) (sym h) (λ texts. held)

  -- a part of a tuple has the type of its field
  part_type : (part : Element) (c : Const) (found : Found) → (type_of layout part ≡ type.Void → ⊥) → lower c (field_type (type_of layout part)) found ≡ lower c (type_of layout part) found
  part_type part c found typed = ap (λ t. lower c t found) (field_is (type_of layout part) typed)

  next_held : {part : Element} {parts : List Element} (c : Const) (cs : List Const) (found : Found) (g : Ghost) → (type_seen layout (Some part) ≡ type.Void → ⊥)
      → Has (Some part) found g (lower c (type_of layout part) found) (meaning c)
      → PartsHeld parts cs g (parts_of (map (constant_of around) cs) (shape layout parts) (lower c (field_type (type_of layout part)) found).1)
      → PartsHeld (part ∷ parts) (c ∷ cs) g (parts_of (map (constant_of around) (c ∷ cs)) (shape layout (part ∷ parts)) found)
  next_held {part = part} {parts = parts} c cs found g typed one rest =
      let first : CConst × Found = lower c (field_type (type_of layout part)) found in
      let held : Has (Some part) found g first (meaning c) = subst (λ made. Has (Some part) found g made (meaning c)) (sym (part_type part c found typed)) one in
      record {
        values = first.0 ∷ rest.values;
        are = ap (λ cells. cell.Const first.0 ∷ cells) rest.are;
        long = ap suc rest.long;
        holds = λ texts. high.Next (held (texts_before p layout g first.1.statics (parts_of (map (constant_of around) cs) (shape layout parts) first.1).1.statics (parts_begin cs (shape layout parts) first.1) texts)) (rest.holds texts);
      }

  mutual
    -- a constant without lists and dicts
    pub value_held : {seen : Option Element} {c : Const} (found : Found) (g : Ghost) → IsValue around known seen c → Has seen found g (lower c (type_seen layout seen) found) (meaning c)
    value_held {seen = seen} found g (word z k f) =
        alone (at_type (const.Word z) (λ t f. (low.Word z, f)) (ap (constant_of around) (sym (const.rolls-Word z)) ∙ fold-roll-Const (LlType → Found → CConst × Found) (constant_step around) (Const-F.Word z)) (type_seen layout seen) found)
        (Plain (ap is_plain k) (subst (λ v. Stands g (type_seen layout seen) (Word z) v) (sym (ap (meant_of objects) (sym (const.rolls-Word z)) ∙ fold-roll-Const Meant (meant_step objects) (Const-F.Word z))) (subst (λ t. Stands g t (Word z) (MeantWord z)) (sym (place_of_words layout seen k)) (high.word z f))))
    value_held {seen = seen} found g (flag b k) =
        alone (at_type (const.Bool b) (λ t f. (low.Bool b, f)) (ap (constant_of around) (sym (const.rolls-Bool b)) ∙ fold-roll-Const (LlType → Found → CConst × Found) (constant_step around) (Const-F.Bool b)) (type_seen layout seen) found)
        (Plain (ap is_plain k) (subst (λ v. Stands g (type_seen layout seen) (Flag b) v) (sym (ap (meant_of objects) (sym (const.rolls-Bool b)) ∙ fold-roll-Const Meant (meant_step objects) (Const-F.Bool b))) (subst (λ t. Stands g t (Flag b) (MeantFlag b)) (sym (place_of_flags layout seen k)) (high.flag b))))
    value_held {seen = seen} found g (byte b k s) =
        alone (str_is (b ∷ []) seen found ∙ ap (λ t. text_as (b ∷ []) t found) (place_of_bytes layout seen k))
        (Plain (ap is_plain k) (subst (λ v. Stands g (type_seen layout seen) (Byte b) v) (sym (str_meant (b ∷ []))) (subst (λ t. Stands g t (Byte b) (Text (b ∷ []))) (sym (place_of_bytes layout seen k)) (high.byte b s))))
    value_held {seen = seen} found g (text bytes t s m) =
        subst (λ made. Has seen found g made (meaning (const.Str bytes))) (sym (str_is bytes seen found))
        (subst (λ v. Has seen found g (text_as bytes (type_seen layout seen) found) v) (sym (str_meant bytes)) (text_held seen bytes found g t s m))
    value_held {seen = seen} found g (nothing k) =
        alone (none_is seen found ∙ ap (λ t. (default_constant t, found)) (place_of_none layout seen k)) (Alone k refl none_meant)
    value_held {seen = seen} found g (missing t d) = alone (none_is seen found ∙ ap (λ c. (c, found)) d) (missing_is t refl none_meant)
    value_held {seen = seen} found g (function fs r f n e one graph number) =
        alone (at_type (const.Function f) (λ t k. (function_of around f t, k)) (ap (constant_of around) (sym (const.rolls-Function f)) ∙ fold-roll-Const (LlType → Found → CConst × Found) (constant_step around) (Const-F.Function f)) (type_seen layout seen) found
        ∙ ap (λ t. (function_of around f t, found)) (ap (type_seen layout) e ∙ function_type layout fs r) ∙ ap (λ o. (function_by o, found)) number)
        (Function fs r f n e (ap (meant_of objects) (sym (const.rolls-Function f)) ∙ fold-roll-Const Meant (meant_step objects) (Const-F.Function f)) one graph refl)
    value_held {seen = seen} found g (items n parts cs of all) = tuple_held n parts cs found g of (values_held found g all)

    values_held : {parts : List Element} {cs : List Const} (found : Found) (g : Ghost) → AllValues around known parts cs → PartsHeld parts cs g (parts_of (map (constant_of around) cs) (shape layout parts) found)
    values_held found g values.End = record { values = []; are = refl; long = refl; holds = λ texts. high.End }
    values_held found g (values.Next {part = part} {parts = parts} {c = c} {cs = cs} value all) =
        next_held c cs found g (value_typed around known objects value) (value_held found g value) (values_held (lower c (field_type (type_of layout part)) found).1 g all)

-- ---- constants with lists and dicts

placed_keeps : (kind : ℕ) (cells : List CCell) (found : Found) (at : Option ℕ) → (placed kind cells found at).1.prebuilt ≡ found.prebuilt
placed_keeps kind cells found None = refl
placed_keeps kind cells found (Some n) = refl

static_keeps : (kind : ℕ) (cells : List CCell) (found : Found) → (static_of kind cells found).1.prebuilt ≡ found.prebuilt
unfolding static_of
static_keeps kind cells found = placed_keeps kind cells found (static_from 0 found.statics kind cells)

pub if_keeps : {A : Type 0} {made : List (ℕ × ℕ)} (x y : A × Found) (c : Bool) → x.1.prebuilt ≡ made → y.1.prebuilt ≡ made → (if c then x else y).1.prebuilt ≡ made
if_keeps x y true g h = g
if_keeps x y false g h = h

static_text_keeps : (bytes : List ℕ) (to : LlType) (found : Found) → (static_text bytes to found).1.prebuilt ≡ found.prebuilt
static_text_keeps bytes (type.Ptr n) found = if_keeps _ _ (n == 0) (static_keeps 0 (text_cells bytes) found) refl
static_text_keeps bytes _ found = refl

text_keeps : (bytes : List ℕ) (to : LlType) (found : Found) → (text_as bytes to found).1.prebuilt ≡ found.prebuilt
text_keeps (b ∷ []) type.Char found = refl
text_keeps bytes to found = static_text_keeps bytes to found

abbrev Keeps : (LlType → Found → CConst × Found) → Type 0
Keeps f = (to : LlType) (found : Found) → (f to found).1.prebuilt ≡ found.prebuilt

module _ (around : Around) where
  abbrev KeepsOne : Const → Type 0
  KeepsOne c = Keeps (constant_of around c)

  parts_keep : (ys : List ((c : Const) × KeepsOne c)) (fields : List LlType) (found : Found) → (parts_of (map (constant_of around) (map (λ q. q.0) ys)) fields found).1.prebuilt ≡ found.prebuilt
  parts_keep [] fields found = refl
  parts_keep (y ∷ ys) [] found = refl
  parts_keep (y ∷ ys) (t ∷ ts) found = parts_keep ys ts (constant_of around y.0 t found).1 ∙ y.1 t found

  tuple_keeps : (ys : List ((c : Const) × KeepsOne c)) → Keeps (tuple_as around (map (constant_of around) (map (λ q. q.0) ys)))
  tuple_keeps ys (type.Ptr n) found = if_keeps _ _ (is_tuple around.layout n)
      (static_keeps n (parts_of (map (constant_of around) (map (λ q. q.0) ys)) (fields_of around n) found).0 (parts_of (map (constant_of around) (map (λ q. q.0) ys)) (fields_of around n) found).1 ∙ parts_keep ys (fields_of around n) found)
      refl
  tuple_keeps ys _ found = refl

  one_keeps : (y : Const-F ((c : Const) × KeepsOne c)) → Keeps (constant_step around (map-Const Const (LlType → Found → CConst × Found) (constant_of around) (map-Const ((c : Const) × KeepsOne c) Const (λ q. q.0) y)))
  one_keeps (Const-F.Word z) to found = refl
  one_keeps (Const-F.Bool b) to found = refl
  one_keeps (Const-F.Str bytes) to found = text_keeps bytes to found
  one_keeps Const-F.None to found = refl
  one_keeps (Const-F.Function f) to found = refl
  one_keeps (Const-F.Tuple ys) to found = tuple_keeps ys to found
  one_keeps (Const-F.List site) to found = refl
  one_keeps (Const-F.Dict site) to found = refl

  -- a constant makes no list or dict
  pub constant_keeps : (c : Const) (to : LlType) (found : Found) → (constant_of around c to found).1.prebuilt ≡ found.prebuilt
  constant_keeps = ind-Const KeepsOne
      (λ x y is. subst Keeps (sym (fold-roll-Const (LlType → Found → CConst × Found) (constant_step around) x)) (subst (λ z. Keeps (constant_step around (map-Const Const (LlType → Found → CConst × Found) (constant_of around) z))) is (one_keeps y)))

-- what was made stays so
abbrev pub Kept : List (ℕ × ℕ) → List (ℕ × ℕ) → Type 0
Kept before after = (site number : ℕ) → prebuilt_at before site ≡ Some number → prebuilt_at after site ≡ Some number

pub same_kept : (before after : List (ℕ × ℕ)) → after ≡ before → Kept before after
same_kept before after e site number h = ap (λ ps. prebuilt_at ps site) e ∙ h

module _ (around : Around) (known : Known) (sites : List Site) (same : List ℕ) where
  mutual
    -- the lists and dicts in a constant are made
    pub data AreMade (made : List (ℕ × ℕ)) : Option Element → Const → Type 0 where
      Nowhere : {seen : Option Element} {c : Const} → IsValue around known seen c → AreMade made seen c
      OfList : {seen : Option Element} (site n number : ℕ) → of_list (kind_seen seen) ≡ true → type_seen around.layout seen ≡ type.Ptr n → is_list around.layout n ≡ true → IsSite around known sites same false site n → prebuilt_at made site ≡ Some number → AreMade made seen (const.List site)
      OfDict : {seen : Option Element} (site n number : ℕ) (m : Mapping) → of_dict (kind_seen seen) ≡ true → type_seen around.layout seen ≡ type.Ptr n → mapping_at around.layout.mappings n ≡ Some m → IsSite around known sites same true site n → prebuilt_at made site ≡ Some number → AreMade made seen (const.Dict site)
      OfItems : {seen : Option Element} (n : ℕ) (parts : List Element) (cs : List Const) → IsTuple around.layout seen n parts → AllMade made parts cs → AreMade made seen (const.Tuple cs)

    pub data AllMade (made : List (ℕ × ℕ)) : List Element → List Const → Type 0 where
      None_left : AllMade made [] []
      One : {part : Element} {parts : List Element} {c : Const} {cs : List Const} → AreMade made (Some part) c → AllMade made parts cs → AllMade made (part ∷ parts) (c ∷ cs)

  made_number : {A : Type 0} (o : Option A) → is_some o ≡ true → (a : A) × (o ≡ Some a)
  made_number None h = absurd (not_true h)
  made_number (Some a) h = (a, refl)

  both_true : (a b : Bool) → (a && b) ≡ true → (a ≡ true) × (b ≡ true)
  both_true true b h = (refl, h)
  both_true false b h = absurd (not_true h)

  mutual
    pub are_made : {seen : Option Element} {c : Const} (found : Found) (it : IsConstant around known sites same seen c) → is_ready found c ≡ true → AreMade found.prebuilt seen c
    are_made found (IsPlain it) h = Nowhere it
    are_made found (IsListed site n of typed is at) h =
        let number = made_number (prebuilt_at found.prebuilt site) (sym (ap (is_ready found) (sym (const.rolls-List site)) ∙ fold-roll-Const Bool (ready_step found) (Const-F.List site)) ∙ h) in
        OfList site n number.0 of typed is at number.1
    are_made found (IsMapped site n m of typed is at) h =
        let number = made_number (prebuilt_at found.prebuilt site) (sym (ap (is_ready found) (sym (const.rolls-Dict site)) ∙ fold-roll-Const Bool (ready_step found) (Const-F.Dict site)) ∙ h) in
        OfDict site n number.0 m of typed is at number.1
    are_made found (HasItems n parts cs of all) h = OfItems n parts cs of (all_made found all (sym (ap (is_ready found) (sym (const.rolls-Tuple cs)) ∙ fold-roll-Const Bool (ready_step found) (Const-F.Tuple cs)) ∙ h))

    all_made : {parts : List Element} {cs : List Const} (found : Found) (all : AllConstants around known sites same parts cs) → are_true (map (is_ready found) cs) ≡ true → AllMade found.prebuilt parts cs
    all_made found End h = None_left
    all_made found (Next {c = c} {cs = cs} it all) h = (let both = both_true (is_ready found c) (are_true (map (is_ready found) cs)) h in One (are_made found it both.0) (all_made found all both.1))

  pub made_typed : {seen : Option Element} {c : Const} {made : List (ℕ × ℕ)} → AreMade made seen c → type_seen around.layout seen ≡ type.Void → ⊥
  made_typed (Nowhere it) h = value_typed around known known.program.sites it h
  made_typed (OfList site n number of typed is at k) h = (let q : type.Ptr n ≡ type.Void = sym typed ∙ h in absurd (cc))
  made_typed (OfDict site n number m of typed is at k) h = (let q : type.Ptr n ≡ type.Void = sym typed ∙ h in absurd (cc))
  made_typed (OfItems n parts cs of all) h = (let q : type.Ptr n ≡ type.Void = sym of.typed ∙ h in absurd (cc))

module _ (p : LlProgram) (around : Around) (known : Known) (sites : List Site) (same : List ℕ) (has : HasLayout p around.layout) (g : Ghost) where
  abbrev InHomes : List (ℕ × ℕ) → Type 0
  InHomes made = Homes p around known sites same has g made

  abbrev Held : Option Element → CConst × Found → Meant → Type 0
  Held seen made v = Texts p around.layout g made.1.statics → Holds around.layout known g seen (constant made.0) v

  abbrev lowered : Const → LlType → Found → CConst × Found
  lowered c t found = constant_of around c t found

  abbrev valued : Const → Meant
  valued c = meant_of known.program.sites c

  mutual
    pub constant_held : {seen : Option Element} {c : Const} {made : List (ℕ × ℕ)} (found : Found) → AreMade around known sites same made seen c → Kept made found.prebuilt → InHomes made → Held seen (lowered c (type_seen around.layout seen) found) (valued c)
    constant_held found (Nowhere it) kept homes = value_held p around known sites same has found g it
    constant_held {seen = seen} {made = made} found (OfList site n number of typed is at number_is) kept homes =
        let low_is : lowered (const.List site) (type_seen around.layout seen) found ≡ (low.Static n number, found) =
        ap (λ f. f (type_seen around.layout seen) found) (ap (constant_of around) (sym (const.rolls-List site)) ∙ fold-roll-Const (LlType → Found → CConst × Found) (constant_step around) (Const-F.List site))
        ∙ ap (λ t. (prebuilt site t found, found)) typed ∙ ap (λ o. (prebuilt_by o n, found)) (kept site number number_is) in
        subst (λ made. Held seen made (valued (const.List site))) (sym low_is)
        (λ texts. HoldsListed n (object_of known.program.sites site) of (ap valued (sym (const.rolls-List site)) ∙ fold-roll-Const Meant (meant_step known.program.sites) (Const-F.List site)) typed is (homes false site n number at number_is))
    constant_held {seen = seen} {made = made} found (OfDict site n number m of typed is at number_is) kept homes =
        let low_is : lowered (const.Dict site) (type_seen around.layout seen) found ≡ (low.Static n number, found) =
        ap (λ f. f (type_seen around.layout seen) found) (ap (constant_of around) (sym (const.rolls-Dict site)) ∙ fold-roll-Const (LlType → Found → CConst × Found) (constant_step around) (Const-F.Dict site))
        ∙ ap (λ t. (prebuilt site t found, found)) typed ∙ ap (λ o. (prebuilt_by o n, found)) (kept site number number_is) in
        subst (λ made. Held seen made (valued (const.Dict site))) (sym low_is)
        (λ texts. HoldsMapped n (object_of known.program.sites site) m of (ap valued (sym (const.rolls-Dict site)) ∙ fold-roll-Const Meant (meant_step known.program.sites) (Const-F.Dict site)) typed is (homes true site n number at number_is))
    constant_held {made = made} found (OfItems n parts cs of each) kept homes = tuple_held p around known sites same has n parts cs found g of (constants_held found each kept homes)

    constants_held : {parts : List Element} {cs : List Const} {made : List (ℕ × ℕ)} (found : Found) → AllMade around known sites same made parts cs → Kept made found.prebuilt → InHomes made
        → PartsHeld p around known sites same has parts cs g (parts_of (map (constant_of around) cs) (shape around.layout parts) found)
    constants_held found None_left kept homes = record { values = []; are = refl; long = refl; holds = λ texts. high.End }
    constants_held {made = made} found (One {part = part} {parts = parts} {c = c} {cs = cs} one each) kept homes =
        next_held p around known sites same has c cs found g (made_typed around known sites same one) (constant_held found one kept homes)
        (constants_held (lowered c (field_type (type_of around.layout part)) found).1 each (λ site number h. same_kept found.prebuilt (lowered c (field_type (type_of around.layout part)) found).1.prebuilt (constant_keeps around c (field_type (type_of around.layout part)) found) site number (kept site number h)) homes)
