-- Constants give their values.
use Rattle.std.proofs.Common.{◌≡◌, ◌<◌, ℕ, zero, suc, ◌^◌, ◌==◌, ◌||◌, Bool, true, false, List, [], ◌∷◌, ◌++◌, length, map, take, drop, Option, Some, None, pos, refl, sym, ap, ◌∙◌, subst, arith}
use Rattle.std.specs.Prelude.{if◌then◌else◌}
use Rattle.std.proofs.lemmas.List.{append-nil}
use Rattle.ann_element.specs.declared.element.Element.{Element}
use Rattle.csub_tree.specs.State.{Value, Word, Byte, Flag, Static, Block}
use Rattle.csub_tree.specs.Layout.{Shape, shape_at, shape_over, constant, joined, cell_constants, cell_step, static_block}
use Rattle.csub_tree.specs.declared.tree.CCell.{CCell, fold-roll-CCell}
use Rattle.csub_tree.specs.declared.tree.CCell.TheOpen.{CCell-F}
use Rattle.csub_tree.specs.declared.tree.CCell.TheVariants as cell
use Rattle.csub_tree.specs.declared.tree.CConst.{CConst}
use Rattle.csub_tree.specs.declared.tree.CConst.TheVariants as low
use Rattle.csub_tree.specs.declared.tree.CStatic.{CStatic}
use Rattle.ll_code.specs.Machine.{shapes_of}
use Rattle.ll_code.specs.declared.program.LlType.{LlType}
use Rattle.ll_code.specs.declared.program.LlType.TheVariants as type
use Rattle.ll_code.specs.declared.program.LlProgram.{LlProgram}
use Rattle.ll_texts.specs.Texts.{text_block, AreBytes, counted_shape}
use Rattle.rpy_tree.specs.Value.{Value as Meant, Object, Text, Nothing, Heap, Word as MeantWord, Flag as MeantFlag}
use Rattle.rpy_tree.specs.declared.program.Const.{Const, fold-roll-Const}
use Rattle.rpy_tree.specs.declared.program.Const.TheOpen.{Const-F}
use Rattle.rpy_tree.specs.declared.program.Const.TheVariants as const
use Rattle.rpy_meaning.specs.Operations.{constant as meant_of, constant_step as meant_step}
use Rattle.rpy_meaning.specs.Sequences.{tuple}
use Rattle.rtyper_layout.specs.declared.layout.Layout.{Layout}
use Rattle.rtyper_layout.specs.Kinds.{kind_seen}
use Rattle.rtyper_layout.specs.Types.{type_of, type_seen, shape, field_type}
use Rattle.rtyper_data.specs.declared.found.Found.{Found}
use Rattle.rtyper_data.specs.Converting.{default_constant}
use Rattle.rtyper_data.specs.Finding.{static_of}
use Rattle.rtyper_data.specs.Seen.{Around}
use Rattle.rtyper_data.specs.Tuples.{fields_of}
use Rattle.rtyper_op.specs.Constants.{char_cell, text_cells, text as text_as, function_by, function_of, constant_of, constant_step, parts_of, tuple as tuple_as, static_tuple}
use Rattle.lower_laws.specs.Values.{is_plain}
use Rattle.lower_laws.proofs.Stayed.{field_is}
use Rattle.lower_laws.proofs.Typing.{place_of_words, place_of_flags, place_of_bytes, place_of_none}
use Rattle.object_laws.specs.Done.{HasLayout}
use Rattle.object_laws.specs.Ghost.{Ghost}
use Rattle.object_laws.specs.Known.{Known}
use Rattle.object_laws.specs.Represents.{Represents, is_settled}
use Rattle.object_laws.specs.Values as high
use Rattle.object_laws.specs.Values.{Stands, Holds, Plain, Alone, Function, Items as HoldsItems, AllHold}
use Rattle.object_laws.proofs.Valued.{function_type}
use Rattle.conversion_laws.specs.Constants.{AreKept, IsValue, AllValues, word, flag, byte, text, nothing, missing, function, items, End, Next}
use Rattle.conversion_laws.specs.Going.{IsTuple, takes_text}
use Rattle.conversion_laws.proofs.Cells.{Begins, IsStatic, begins_same, begins_then, begun_at, consts, consts_same, static_is, text_same}
use Rattle.conversion_laws.proofs.Valued.{missing_is, text_plain, texts_typed}

-- ---- statics in memory

const_cell : (c : CConst) → cell_constants (cell.Const c) ≡ c ∷ []
const_cell c = ap cell_constants (sym (cell.rolls-Const c)) ∙ fold-roll-CCell (List CConst) cell_step (CCell-F.Const c)

joined_consts : (cs : List CConst) → joined (map cell_constants (consts cs)) ≡ cs
joined_consts [] = refl
joined_consts (c ∷ cs) = ap (λ l. l ++ joined (map cell_constants (consts cs))) (const_cell c) ∙ ap (λ l. c ∷ l) (joined_consts cs)

braces_cell : (cs : List CConst) → cell_constants (cell.Braces (consts cs)) ≡ cs
braces_cell cs = ap cell_constants (sym (cell.rolls-Braces (consts cs))) ∙ fold-roll-CCell (List CConst) cell_step (CCell-F.Braces (consts cs)) ∙ joined_consts cs

take_all : {A : Type 0} (xs : List A) (k : ℕ) → k ≡ length xs → take k xs ≡ xs
take_all [] zero h = refl
take_all [] (suc k) h = refl
take_all (x ∷ xs) zero h = absurd (omega (arith, h))
take_all (x ∷ xs) (suc k) h = ap (λ l. x ∷ l) (take_all xs k (omega (arith, h)))

drop_all : {A : Type 0} (xs : List A) (k : ℕ) → k ≡ length xs → drop k xs ≡ []
drop_all [] zero h = refl
drop_all [] (suc k) h = refl
drop_all (x ∷ xs) zero h = absurd (omega (arith, h))
drop_all (x ∷ xs) (suc k) h = drop_all xs k (omega (arith, h))

map_long : {A B : Type 0} (f : A → B) (xs : List A) → length (map f xs) ≡ length xs
map_long f [] = refl
map_long f (x ∷ xs) = ap suc (map_long f xs)

abbrev tuple_static : ℕ → List CConst → CStatic
tuple_static n cs = record { kind = n; cells = consts cs }

tuple_in : (shapes : List Shape) (n : ℕ) (cs : List CConst) → shape_at shapes n ≡ shape_over n (length cs) None → static_block shapes (tuple_static n cs) ≡ record { kind = n; fields = map constant cs; items = [] }
tuple_in shapes n cs h =
    let values : List Value = map constant cs in
    let long : length cs ≡ length values = sym (map_long constant cs) in
    ap (λ l. record { kind = n; fields = take (shape_at shapes n).size (map constant l); items = drop (shape_at shapes n).size (map constant l) }) (joined_consts cs)
    ∙ ap (λ (s : Shape). record { kind = n; fields = take s.size values; items = drop s.size values }) h
    ∙ ap (λ l. record { kind = n; fields = l; items = drop (length cs) values }) (take_all values (length cs) long)
    ∙ ap (λ l. record { kind = n; fields = values; items = l }) (drop_all values (length cs) long)

abbrev text_static : List ℕ → CStatic
text_static bytes = record { kind = 0; cells = cell.Const (low.Word (pos (length bytes))) ∷ cell.Braces (consts (map low.Char bytes)) ∷ [] }

bytes_are : (bytes : List ℕ) → map constant (map low.Char bytes) ≡ map Byte bytes
bytes_are [] = refl
bytes_are (b ∷ bytes) = ap (λ l. Byte b ∷ l) (bytes_are bytes)

chars_are : (bytes : List ℕ) → map char_cell bytes ≡ consts (map low.Char bytes)
chars_are [] = refl
chars_are (b ∷ bytes) = ap (λ l. cell.Const (low.Char b) ∷ l) (chars_are bytes)

text_in : (shapes : List Shape) (bytes : List ℕ) → shape_at shapes 0 ≡ counted_shape 0 → static_block shapes (text_static bytes) ≡ text_block bytes
text_in shapes bytes h =
    let w : CConst = low.Word (pos (length bytes)) in
    let cs : List CConst = map low.Char bytes in
    ap (λ l. record { kind = 0; fields = take (shape_at shapes 0).size (map constant l); items = drop (shape_at shapes 0).size (map constant l) })
    (ap (λ l. l ++ (cell_constants (cell.Braces (consts cs)) ++ [])) (const_cell w) ∙ ap (λ l. w ∷ l) (append-nil (cell_constants (cell.Braces (consts cs))) ∙ braces_cell cs))
    ∙ ap (λ (s : Shape). record { kind = 0; fields = take s.size (Word (pos (length bytes)) ∷ map constant cs); items = drop s.size (Word (pos (length bytes)) ∷ map constant cs) }) h
    ∙ ap (λ l. record { kind = 0; fields = Word (pos (length bytes)) ∷ []; items = l }) (bytes_are bytes)

-- ---- constants

-- what is made is the value, where the statics that are asked for stay
pub record Made (layout : Layout) (known : Known) (seen : Option Element) (made : CConst × Found) (found : Found) (v : Meant) : Type 0 where
  pub begins : Begins found.statics made.1.statics
  pub holds : (p : LlProgram) (last : Found) (g : Ghost) (heap : Heap) (left : ℕ) (blocks : List (Option Block)) (statics : List Block) → HasLayout p layout → Begins made.1.statics last.statics → AreKept p layout known last → Represents layout known g heap left blocks statics
      → Holds layout known g seen (constant made.0) v

pub alone_made : {layout : Layout} {known : Known} {seen : Option Element} {c : CConst} {found : Found} {v : Meant} {made : CConst × Found} → made ≡ (c, found) → ((g : Ghost) → Holds layout known g seen (constant c) v) → Made layout known seen made found v
alone_made {layout = layout} {known = known} {seen = seen} {found = found} {v = v} h held = subst (λ made. Made layout known seen made found v) (sym h) (record { begins = begins_same found.statics; holds = λ p last g heap left blocks statics has begins kept r. held g })

or_true : (b : Bool) → (b || true) ≡ true
or_true true = refl
or_true false = refl

module _ (around : Around) (known : Known) (sites : List (Option Object)) where
  abbrev layout : Layout
  layout = around.layout

  -- a string
  text_is : (bytes : List ℕ) (found : Found) → text_as bytes (type.Ptr 0) found ≡ static_of 0 (text_cells bytes) found
  text_is [] found = refl
  text_is (b ∷ []) found = refl
  text_is (b ∷ c ∷ bytes) found = refl

  pub text_made : (seen : Option Element) (bytes : List ℕ) (found : Found) → takes_text (kind_seen seen) ≡ true → length bytes < 2 ^ 63 → AreBytes bytes → Made layout known seen (text_as bytes (type_seen layout seen) found) found (Text bytes)
  text_made seen bytes found t short small =
      let cells : List CCell = cell.Const (low.Word (pos (length bytes))) ∷ cell.Braces (consts (map low.Char bytes)) ∷ [] in
      let is : text_as bytes (type_seen layout seen) found ≡ static_of 0 cells found = ap (λ s. text_as bytes s found) (texts_typed layout seen t) ∙ text_is bytes found ∙ ap (λ cs. static_of 0 (cell.Const (low.Word (pos (length bytes))) ∷ cell.Braces cs ∷ []) found) (chars_are bytes) in
      let it : IsStatic 0 cells (static_of 0 cells found) found = static_is 0 cells found (λ xs h. text_same xs (low.Word (pos (length bytes))) (map low.Char bytes) h) in
      subst (λ made. Made layout known seen made found (Text bytes)) (sym is) (record {
        begins = it.begins;
        holds = λ p last g heap left blocks statics has begins kept r.
            let stays : known.static it.number ≡ Some (text_block bytes) = kept it.number (text_static bytes) (begun_at begins it.number (text_static bytes) it.there) refl ∙ ap Some (text_in (shapes_of p.structs) bytes has.plain.text) in
            Plain (text_plain (kind_seen seen) t) (subst (λ s. Stands g s (constant (static_of 0 cells found).0) (Text bytes)) (sym (texts_typed layout seen t))
            (subst (λ c. Stands g (type.Ptr 0) (constant c) (Text bytes)) (sym it.constant) (high.text (Static it.number) bytes (record { is = r.constants it.number (text_block bytes) stays; short = short; small = small }))));
      })

  -- ---- values

  pub value_typed : {seen : Option Element} {c : Const} → IsValue around known seen c → type_seen layout seen ≡ type.Void → ⊥
  value_typed {seen = seen} (word z k f) h = (let q : type.Signed ≡ type.Void = sym (place_of_words layout seen k) ∙ h in absurd (cc))
  value_typed {seen = seen} (flag b k) h = (let q : type.Bool ≡ type.Void = sym (place_of_flags layout seen k) ∙ h in absurd (cc))
  value_typed {seen = seen} (byte b k s) h = (let q : type.Char ≡ type.Void = sym (place_of_bytes layout seen k) ∙ h in absurd (cc))
  value_typed {seen = seen} (text bytes t s m) h = (let q : type.Ptr 0 ≡ type.Void = sym (texts_typed layout seen t) ∙ h in absurd (cc))
  value_typed {seen = seen} (nothing k) h = (let q : type.Bool ≡ type.Void = sym (place_of_none layout seen k) ∙ h in absurd (cc))
  value_typed (missing t d) h = (let q : low.Null ≡ default_constant type.Void = sym d ∙ ap default_constant h in absurd (cc))
  value_typed (function fs r f n e one graph number) h = (let q : type.Fn ≡ type.Void = sym (ap (type_seen layout) e ∙ function_type layout fs r) ∙ h in absurd (cc))
  value_typed (items n parts cs of all) h = (let q : type.Ptr n ≡ type.Void = sym of.typed ∙ h in absurd (cc))

  none_is : (seen : Option Element) (found : Found) → constant_of around const.None (type_seen layout seen) found ≡ (default_constant (type_seen layout seen), found)
  none_is seen found = ap (λ f. f (type_seen layout seen) found) (ap (constant_of around) (sym const.rolls-None) ∙ fold-roll-Const (LlType → Found → CConst × Found) (constant_step around) Const-F.None)

  pub none_meant : meant_of sites const.None ≡ Nothing
  none_meant = ap (meant_of sites) (sym const.rolls-None) ∙ fold-roll-Const Meant (meant_step sites) Const-F.None

  pub str_is : (seen : Option Element) (bytes : List ℕ) (found : Found) → constant_of around (const.Str bytes) (type_seen layout seen) found ≡ text_as bytes (type_seen layout seen) found
  str_is seen bytes found = ap (λ f. f (type_seen layout seen) found) (ap (constant_of around) (sym (const.rolls-Str bytes)) ∙ fold-roll-Const (LlType → Found → CConst × Found) (constant_step around) (Const-F.Str bytes))

  pub str_meant : (bytes : List ℕ) → meant_of sites (const.Str bytes) ≡ Text bytes
  str_meant bytes = ap (meant_of sites) (sym (const.rolls-Str bytes)) ∙ fold-roll-Const Meant (meant_step sites) (Const-F.Str bytes)

  shape_long : (parts : List Element) → length (shape layout parts) ≡ length parts
  shape_long [] = refl
  shape_long (part ∷ parts) = ap suc (shape_long parts)

  abbrev Makes : Option Element → Const → Found → Type 0
  Makes seen c found = Made layout known seen (constant_of around c (type_seen layout seen) found) found (meant_of sites c)

  -- the parts of a tuple
  record PartsMade (parts : List Element) (cs : List Const) (made : List CCell × Found) (found : Found) : Type 0 where
    values : List CConst
    are : made.0 ≡ consts values
    long : length values ≡ length parts
    begins : Begins found.statics made.1.statics
    holds : (p : LlProgram) (last : Found) (g : Ghost) (heap : Heap) (left : ℕ) (blocks : List (Option Block)) (statics : List Block) → HasLayout p layout → Begins made.1.statics last.statics → AreKept p layout known last → Represents layout known g heap left blocks statics
        → AllHold layout known g parts (map constant values) (map (meant_of sites) cs)

  tuple_made : {seen : Option Element} (n : ℕ) (parts : List Element) (cs : List Const) (found : Found) → IsTuple layout seen n parts → PartsMade parts cs (parts_of (map (constant_of around) cs) (shape layout parts) found) found → Makes seen (const.Tuple cs) found
  tuple_made {seen = seen} n parts cs found of it =
      let made : List CCell × Found = parts_of (map (constant_of around) cs) (shape layout parts) found in
      let start : constant_of around (const.Tuple cs) (type_seen layout seen) found ≡ static_of n made.0 made.1 =
      ap (λ f. f (type_seen layout seen) found) (ap (constant_of around) (sym (const.rolls-Tuple cs)) ∙ fold-roll-Const (LlType → Found → CConst × Found) (constant_step around) (Const-F.Tuple cs))
      ∙ ap (λ t. tuple_as around (map (constant_of around) cs) t found) of.typed
      ∙ ap (λ c. if c then static_tuple around n (parts_of (map (constant_of around) cs) (fields_of around n) found) else (low.Null, found)) of.struct
      ∙ ap (λ ts. static_tuple around n (parts_of (map (constant_of around) cs) ts found)) of.fields in
      let is : constant_of around (const.Tuple cs) (type_seen layout seen) found ≡ static_of n (consts it.values) made.1 = start ∙ ap (λ cells. static_of n cells made.1) it.are in
      let st : IsStatic n (consts it.values) (static_of n (consts it.values) made.1) made.1 = static_is n (consts it.values) made.1 (λ xs h. consts_same xs it.values h) in
      let high_is : meant_of sites (const.Tuple cs) ≡ tuple (map (meant_of sites) cs) = ap (meant_of sites) (sym (const.rolls-Tuple cs)) ∙ fold-roll-Const Meant (meant_step sites) (Const-F.Tuple cs) in
      subst (λ made. Made layout known seen made found (meant_of sites (const.Tuple cs))) (sym is) (record {
        begins = begins_then it.begins st.begins;
        holds = λ p last g heap left blocks statics has begins kept r.
            let shaped : shape_at (shapes_of p.structs) n ≡ shape_over n (length it.values) None = has.plain.tuples n of.struct ∙ ap (λ k. shape_over n k None) (ap length of.fields ∙ shape_long parts ∙ sym it.long) in
            let settled : is_settled layout n ≡ true = ap (λ c. (n == 0) || c) of.struct ∙ or_true (n == 0) in
            let block : Block = record { kind = n; fields = map constant it.values; items = [] } in
            let stays : known.static st.number ≡ Some block = kept st.number (tuple_static n it.values) (begun_at begins st.number (tuple_static n it.values) st.there) settled ∙ ap Some (tuple_in (shapes_of p.structs) n it.values shaped) in
            subst (λ c. Holds layout known g seen (constant c) (meant_of sites (const.Tuple cs))) (sym st.constant)
            (HoldsItems parts n (map constant it.values) (map (meant_of sites) cs) of.is high_is of.typed (r.constants st.number block stays) (it.holds p last g heap left blocks statics has (begins_then st.begins begins) kept r));
      })

  mutual
    pub constant_made : {seen : Option Element} {c : Const} (found : Found) → IsValue around known seen c → Makes seen c found
    constant_made {seen = seen} found (word z k f) =
        alone_made (ap (λ f. f (type_seen layout seen) found) (ap (constant_of around) (sym (const.rolls-Word z)) ∙ fold-roll-Const (LlType → Found → CConst × Found) (constant_step around) (Const-F.Word z)))
        (λ g. Plain (ap is_plain k) (subst (λ v. Stands g (type_seen layout seen) (Word z) v) (sym (ap (meant_of sites) (sym (const.rolls-Word z)) ∙ fold-roll-Const Meant (meant_step sites) (Const-F.Word z))) (subst (λ t. Stands g t (Word z) (MeantWord z)) (sym (place_of_words layout seen k)) (high.word z f))))
    constant_made {seen = seen} found (flag b k) =
        alone_made (ap (λ f. f (type_seen layout seen) found) (ap (constant_of around) (sym (const.rolls-Bool b)) ∙ fold-roll-Const (LlType → Found → CConst × Found) (constant_step around) (Const-F.Bool b)))
        (λ g. Plain (ap is_plain k) (subst (λ v. Stands g (type_seen layout seen) (Flag b) v) (sym (ap (meant_of sites) (sym (const.rolls-Bool b)) ∙ fold-roll-Const Meant (meant_step sites) (Const-F.Bool b))) (subst (λ t. Stands g t (Flag b) (MeantFlag b)) (sym (place_of_flags layout seen k)) (high.flag b))))
    constant_made {seen = seen} found (byte b k s) =
        alone_made (ap (λ f. f (type_seen layout seen) found) (ap (constant_of around) (sym (const.rolls-Str (b ∷ []))) ∙ fold-roll-Const (LlType → Found → CConst × Found) (constant_step around) (Const-F.Str (b ∷ []))) ∙ ap (λ t. text_as (b ∷ []) t found) (place_of_bytes layout seen k))
        (λ g. Plain (ap is_plain k) (subst (λ v. Stands g (type_seen layout seen) (Byte b) v) (sym (ap (meant_of sites) (sym (const.rolls-Str (b ∷ []))) ∙ fold-roll-Const Meant (meant_step sites) (Const-F.Str (b ∷ [])))) (subst (λ t. Stands g t (Byte b) (Text (b ∷ []))) (sym (place_of_bytes layout seen k)) (high.byte b s))))
    constant_made {seen = seen} found (text bytes t s m) =
        subst (λ made. Made layout known seen made found (meant_of sites (const.Str bytes))) (sym (str_is seen bytes found))
        (subst (λ v. Made layout known seen (text_as bytes (type_seen layout seen) found) found v) (sym (str_meant bytes)) (text_made seen bytes found t s m))
    constant_made {seen = seen} found (nothing k) =
        alone_made (none_is seen found ∙ ap (λ t. (default_constant t, found)) (place_of_none layout seen k)) (λ g. Alone k refl none_meant)
    constant_made {seen = seen} found (missing t d) = alone_made (none_is seen found ∙ ap (λ c. (c, found)) d) (λ g. missing_is t refl none_meant)
    constant_made {seen = seen} found (function fs r f n e one graph number) =
        alone_made (ap (λ f. f (type_seen layout seen) found) (ap (constant_of around) (sym (const.rolls-Function f)) ∙ fold-roll-Const (LlType → Found → CConst × Found) (constant_step around) (Const-F.Function f))
        ∙ ap (λ t. (function_of around f t, found)) (ap (type_seen layout) e ∙ function_type layout fs r) ∙ ap (λ o. (function_by o, found)) number)
        (λ g. Function fs r f n e (ap (meant_of sites) (sym (const.rolls-Function f)) ∙ fold-roll-Const Meant (meant_step sites) (Const-F.Function f)) one graph refl)
    constant_made {seen = seen} found (items n parts cs of all) = tuple_made n parts cs found of (parts_made found all)

    parts_made : {parts : List Element} {cs : List Const} (found : Found) → AllValues around known parts cs → PartsMade parts cs (parts_of (map (constant_of around) cs) (shape layout parts) found) found
    parts_made found End = record { values = []; are = refl; long = refl; begins = begins_same found.statics; holds = λ p last g heap left blocks statics has begins kept r. high.End }
    parts_made found (Next {part = part} {parts = parts} {c = c} {cs = cs} value all) =
        let typed : type_of layout part ≡ field_type (type_of layout part) = sym (field_is (type_of layout part) (value_typed value)) in
        let one : Made layout known (Some part) (constant_of around c (field_type (type_of layout part)) found) found (meant_of sites c) = subst (λ t. Made layout known (Some part) (constant_of around c t found) found (meant_of sites c)) typed (constant_made found value) in
        let first : CConst × Found = constant_of around c (field_type (type_of layout part)) found in
        let rest = parts_made first.1 all in
        record {
          values = first.0 ∷ rest.values;
          are = ap (λ cells. cell.Const first.0 ∷ cells) rest.are;
          long = ap suc rest.long;
          begins = begins_then one.begins rest.begins;
          holds = λ p last g heap left blocks statics has begins kept r. high.Next (one.holds p last g heap left blocks statics has (begins_then rest.begins begins) kept r) (rest.holds p last g heap left blocks statics has begins kept r);
        }
