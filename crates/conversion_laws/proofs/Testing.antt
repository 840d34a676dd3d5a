-- What is written for whether two values are equal, by their types.
use Rattle.std.proofs.Common.{◌≡◌, ℕ, ◌+◌, ◌==◌, ◌&&◌, Bool, true, false, List, [], ◌∷◌, ◌++◌, length, Some, refl, sym, ap, ◌∙◌, arith, append_assoc, length-append}
use Rattle.std.specs.Prelude.{if◌then◌else◌}
use Rattle.std.proofs.lemmas.Bool.Decides.{nat_tests}
use Rattle.std.proofs.lemmas.List.{append-nil}
use Rattle.csub_tree.specs.declared.tree.CBinary.TheVariants as binary
use Rattle.csub_tree.specs.declared.tree.CUnary.TheVariants as unary
use Rattle.csub_tree.specs.declared.tree.COperand.{COperand}
use Rattle.csub_tree.specs.declared.tree.COperand.TheVariants.{Var}
use Rattle.ll_code.specs.declared.program.LlType.{LlType}
use Rattle.ll_code.specs.declared.program.LlType.TheVariants as type
use Rattle.ll_code.specs.declared.program.LlOp.{LlOp}
use Rattle.ll_code.specs.declared.program.LlOp.TheVariants as op
use Rattle.ll_build.specs.declared.needs.Helper.TheVariants as helper
use Rattle.rtyper_layout.specs.declared.layout.Layout.{Layout}
use Rattle.rtyper_layout.specs.Layout.{is_tuple}
use Rattle.rtyper_data.specs.declared.found.Found.{Found}
use Rattle.rtyper_data.specs.declared.small.Small.TheVariants as small
use Rattle.rtyper_data.specs.Comparing.{equal, texts_equal, pointers_equal, flag, null}
use Rattle.rtyper_data.specs.Converting.{value_as, helped, by_small}
use Rattle.rtyper_data.specs.Finding.{helper_number, small_number}
use Rattle.rtyper_data.specs.Seen.{Writing, writing}
use Rattle.lower_laws.specs.Asked.{Help, Make, all_asked}
use Rattle.lower_laws.specs.Values.{IsBelow}
use Rattle.lower_laws.proofs.Flags.{three_more}
use Rattle.conversion_laws.specs.Asked.{equal_asks}

pub data Test : Type 0 where
  Words : Test
  Truths : Test
  Bytes : Test
  FromByte : Test
  ToByte : Test
  SecondNull : Test
  FirstNull : Test
  Texts : Test
  Tuples : ℕ → ℕ → Test
  Apart : Test

abbrev pub tuples_test : Layout → ℕ → ℕ → Test
tuples_test layout m n = if is_tuple layout m && is_tuple layout n then Tuples m n else Apart

abbrev pub test_of : Layout → LlType → LlType → Test
test_of layout type.Signed type.Signed = Words
test_of layout type.Bool type.Bool = Truths
test_of layout type.Char type.Char = Bytes
test_of layout type.Char (type.Ptr n) = if n == 0 then FromByte else Apart
test_of layout (type.Ptr m) type.Char = if m == 0 then ToByte else Apart
test_of layout type.Bool (type.Ptr n) = SecondNull
test_of layout (type.Ptr m) type.Bool = FirstNull
test_of layout (type.Ptr m) (type.Ptr n) = if (m == 0) && (n == 0) then Texts else tuples_test layout m n
test_of layout s t = Apart

-- the variable behind one more
abbrev pub after_one : LlType → Writing → ℕ
after_one t w = length (w.body.types ++ t ∷ [])

abbrev pub after_two : Writing → ℕ
after_two w = length ((w.body.types ++ type.Signed ∷ []) ++ type.Signed ∷ [])

abbrev pub byte_found : Writing → Found
byte_found w = (helper_number helper.StrOfChar w.found).1

abbrev pub ops_of : Test → COperand → COperand → Writing → List LlOp
ops_of Words x y w = op.Binary (length w.body.types) binary.Eq x y ∷ []
ops_of Truths x y w = op.Binary (length w.body.types) binary.Beq x y ∷ []
ops_of Bytes x y w = op.Unary (length w.body.types) unary.C2S x ∷ op.Unary (after_one type.Signed w) unary.C2S y ∷ op.Binary (after_two w) binary.Eq (Var (length w.body.types)) (Var (after_one type.Signed w)) ∷ []
ops_of FromByte x y w = op.Call (Some (length w.body.types)) (helper_number helper.StrOfChar w.found).0 (x ∷ []) ∷ op.Call (Some (after_one (type.Ptr 0) w)) (helper_number helper.StrEqual (byte_found w)).0 (Var (length w.body.types) ∷ y ∷ []) ∷ []
ops_of ToByte x y w = op.Call (Some (length w.body.types)) (helper_number helper.StrOfChar w.found).0 (y ∷ []) ∷ op.Call (Some (after_one (type.Ptr 0) w)) (helper_number helper.StrEqual (byte_found w)).0 (x ∷ Var (length w.body.types) ∷ []) ∷ []
ops_of SecondNull x y w = op.Binary (length w.body.types) binary.Peq y null ∷ []
ops_of FirstNull x y w = op.Binary (length w.body.types) binary.Peq x null ∷ []
ops_of Texts x y w = op.Call (Some (length w.body.types)) (helper_number helper.StrEqual w.found).0 (x ∷ y ∷ []) ∷ []
ops_of (Tuples m n) x y w = op.Call (Some (length w.body.types)) (small_number (small.Equal m n) w.found).0 (x ∷ y ∷ []) ∷ []
ops_of Apart x y w = []

abbrev pub new_of : Test → List LlType
new_of Bytes = type.Signed ∷ type.Signed ∷ type.Bool ∷ []
new_of FromByte = type.Ptr 0 ∷ type.Bool ∷ []
new_of ToByte = type.Ptr 0 ∷ type.Bool ∷ []
new_of Apart = []
new_of Words = type.Bool ∷ []
new_of Truths = type.Bool ∷ []
new_of SecondNull = type.Bool ∷ []
new_of FirstNull = type.Bool ∷ []
new_of Texts = type.Bool ∷ []
new_of (Tuples m n) = type.Bool ∷ []

abbrev pub operand_of : Test → Writing → COperand
operand_of Bytes w = Var (after_two w)
operand_of FromByte w = Var (after_one (type.Ptr 0) w)
operand_of ToByte w = Var (after_one (type.Ptr 0) w)
operand_of Apart w = flag false
operand_of Words w = Var (length w.body.types)
operand_of Truths w = Var (length w.body.types)
operand_of SecondNull w = Var (length w.body.types)
operand_of FirstNull w = Var (length w.body.types)
operand_of Texts w = Var (length w.body.types)
operand_of (Tuples m n) w = Var (length w.body.types)

abbrev pub found_of : Test → Writing → Found
found_of FromByte w = (helper_number helper.StrEqual (byte_found w)).1
found_of ToByte w = (helper_number helper.StrEqual (byte_found w)).1
found_of Texts w = (helper_number helper.StrEqual w.found).1
found_of (Tuples m n) w = (small_number (small.Equal m n) w.found).1
found_of Words w = w.found
found_of Truths w = w.found
found_of Bytes w = w.found
found_of SecondNull w = w.found
found_of FirstNull w = w.found
found_of Apart w = w.found

abbrev pub left_by : Test → COperand → COperand → Writing → Writing
left_by t x y w = writing (found_of t w) (record { types = w.body.types ++ new_of t; ops = w.body.ops ++ ops_of t x y w })

nothing_more : (w : Writing) → w ≡ writing w.found (record { types = w.body.types ++ []; ops = w.body.ops ++ [] })
nothing_more w = ap (λ ts. writing w.found (record { types = ts; ops = w.body.ops })) (sym (append-nil w.body.types)) ∙ ap (λ os. writing w.found (record { types = w.body.types ++ []; ops = os })) (sym (append-nil w.body.ops))

two_more : {A : Type 0} (xs : List A) (a b : A) → (xs ++ a ∷ []) ++ b ∷ [] ≡ xs ++ a ∷ b ∷ []
two_more xs a b = append_assoc xs (a ∷ []) (b ∷ [])

module _ (layout : Layout) where
  from_byte : (n : ℕ) (x y : COperand) (w : Writing) (c : Bool) → (n == 0) ≡ c → equal layout x type.Char y (type.Ptr n) w ≡ (operand_of (if c then FromByte else Apart) w, left_by (if c then FromByte else Apart) x y w)
  unfolding equal texts_equal value_as helped
  from_byte n x y w true h =
      let q : n ≡ 0 = grind (arith, nat_tests, h) in
      ap (λ c. if c then texts_equal layout x type.Char y (type.Ptr n) w else (flag false, w)) h ∙ ap (λ n. texts_equal layout x type.Char y (type.Ptr n) w) q
      ∙ ap (λ ts. (operand_of FromByte w, writing (found_of FromByte w) (record { types = ts; ops = (w.body.ops ++ op.Call (Some (length w.body.types)) (helper_number helper.StrOfChar w.found).0 (x ∷ []) ∷ []) ++ op.Call (Some (after_one (type.Ptr 0) w)) (helper_number helper.StrEqual (byte_found w)).0 (Var (length w.body.types) ∷ y ∷ []) ∷ [] }))) (two_more w.body.types (type.Ptr 0) type.Bool)
      ∙ ap (λ os. (operand_of FromByte w, writing (found_of FromByte w) (record { types = w.body.types ++ type.Ptr 0 ∷ type.Bool ∷ []; ops = os }))) (two_more w.body.ops (op.Call (Some (length w.body.types)) (helper_number helper.StrOfChar w.found).0 (x ∷ [])) (op.Call (Some (after_one (type.Ptr 0) w)) (helper_number helper.StrEqual (byte_found w)).0 (Var (length w.body.types) ∷ y ∷ [])))
  from_byte n x y w false h = ap (λ c. if c then texts_equal layout x type.Char y (type.Ptr n) w else (flag false, w)) h ∙ ap (λ w. (flag false, w)) (nothing_more w)

  to_byte : (m : ℕ) (x y : COperand) (w : Writing) (c : Bool) → (m == 0) ≡ c → equal layout x (type.Ptr m) y type.Char w ≡ (operand_of (if c then ToByte else Apart) w, left_by (if c then ToByte else Apart) x y w)
  unfolding equal texts_equal value_as helped
  to_byte m x y w true h =
      let q : m ≡ 0 = grind (arith, nat_tests, h) in
      ap (λ c. if c then texts_equal layout x (type.Ptr m) y type.Char w else (flag false, w)) h ∙ ap (λ m. texts_equal layout x (type.Ptr m) y type.Char w) q
      ∙ ap (λ ts. (operand_of ToByte w, writing (found_of ToByte w) (record { types = ts; ops = (w.body.ops ++ op.Call (Some (length w.body.types)) (helper_number helper.StrOfChar w.found).0 (y ∷ []) ∷ []) ++ op.Call (Some (after_one (type.Ptr 0) w)) (helper_number helper.StrEqual (byte_found w)).0 (x ∷ Var (length w.body.types) ∷ []) ∷ [] }))) (two_more w.body.types (type.Ptr 0) type.Bool)
      ∙ ap (λ os. (operand_of ToByte w, writing (found_of ToByte w) (record { types = w.body.types ++ type.Ptr 0 ∷ type.Bool ∷ []; ops = os }))) (two_more w.body.ops (op.Call (Some (length w.body.types)) (helper_number helper.StrOfChar w.found).0 (y ∷ [])) (op.Call (Some (after_one (type.Ptr 0) w)) (helper_number helper.StrEqual (byte_found w)).0 (x ∷ Var (length w.body.types) ∷ [])))
  to_byte m x y w false h = ap (λ c. if c then texts_equal layout x (type.Ptr m) y type.Char w else (flag false, w)) h ∙ ap (λ w. (flag false, w)) (nothing_more w)

  two_tuples : (m n : ℕ) (x y : COperand) (w : Writing) (c : Bool) → (is_tuple layout m && is_tuple layout n) ≡ c → (if is_tuple layout m && is_tuple layout n then by_small (small.Equal m n) type.Bool (x ∷ y ∷ []) w else (flag false, w)) ≡ (operand_of (if c then Tuples m n else Apart) w, left_by (if c then Tuples m n else Apart) x y w)
  unfolding by_small
  two_tuples m n x y w true h = ap (λ c. if c then by_small (small.Equal m n) type.Bool (x ∷ y ∷ []) w else (flag false, w)) h
  two_tuples m n x y w false h = ap (λ c. if c then by_small (small.Equal m n) type.Bool (x ∷ y ∷ []) w else (flag false, w)) h ∙ ap (λ w. (flag false, w)) (nothing_more w)

  two_pointers : (m n : ℕ) (x y : COperand) (w : Writing) (c : Bool) → ((m == 0) && (n == 0)) ≡ c → pointers_equal layout x m y n w ≡ (operand_of (if c then Texts else tuples_test layout m n) w, left_by (if c then Texts else tuples_test layout m n) x y w)
  unfolding helped
  two_pointers m n x y w true h = ap (λ c. if c then helped helper.StrEqual type.Bool (x ∷ y ∷ []) w else if is_tuple layout m && is_tuple layout n then by_small (small.Equal m n) type.Bool (x ∷ y ∷ []) w else (flag false, w)) h
  two_pointers m n x y w false h = ap (λ c. if c then helped helper.StrEqual type.Bool (x ∷ y ∷ []) w else if is_tuple layout m && is_tuple layout n then by_small (small.Equal m n) type.Bool (x ∷ y ∷ []) w else (flag false, w)) h ∙ two_tuples m n x y w (is_tuple layout m && is_tuple layout n) refl

  pub equal_is : (s t : LlType) (x y : COperand) (w : Writing) → equal layout x s y t w ≡ (operand_of (test_of layout s t) w, left_by (test_of layout s t) x y w)
  unfolding equal
  equal_is type.Signed type.Signed x y w = refl
  equal_is type.Bool type.Bool x y w = refl
  equal_is type.Char type.Char x y w =
      ap (λ ts. (operand_of Bytes w, writing w.found (record { types = ts; ops = ((w.body.ops ++ op.Unary (length w.body.types) unary.C2S x ∷ []) ++ op.Unary (after_one type.Signed w) unary.C2S y ∷ []) ++ op.Binary (after_two w) binary.Eq (Var (length w.body.types)) (Var (after_one type.Signed w)) ∷ [] }))) (three_more w.body.types type.Signed type.Signed type.Bool)
      ∙ ap (λ os. (operand_of Bytes w, writing w.found (record { types = w.body.types ++ new_of Bytes; ops = os }))) (three_more w.body.ops (op.Unary (length w.body.types) unary.C2S x) (op.Unary (after_one type.Signed w) unary.C2S y) (op.Binary (after_two w) binary.Eq (Var (length w.body.types)) (Var (after_one type.Signed w))))
  equal_is type.Char (type.Ptr n) x y w = from_byte n x y w (n == 0) refl
  equal_is (type.Ptr m) type.Char x y w = to_byte m x y w (m == 0) refl
  equal_is type.Bool (type.Ptr n) x y w = refl
  equal_is (type.Ptr m) type.Bool x y w = refl
  equal_is (type.Ptr m) (type.Ptr n) x y w = two_pointers m n x y w ((m == 0) && (n == 0)) refl
  equal_is _ _ x y w = ap (λ w. (flag false, w)) (nothing_more w)

  byte_asked : (c : Bool) (w : Writing) → found_of (if c then FromByte else Apart) w ≡ all_asked (if c then Help helper.StrOfChar ∷ Help helper.StrEqual ∷ [] else []) w.found
  byte_asked true w = refl
  byte_asked false w = refl

  to_byte_asked : (c : Bool) (w : Writing) → found_of (if c then ToByte else Apart) w ≡ all_asked (if c then Help helper.StrOfChar ∷ Help helper.StrEqual ∷ [] else []) w.found
  to_byte_asked true w = refl
  to_byte_asked false w = refl

  pointers_asked : (m n : ℕ) (c d : Bool) (w : Writing) → found_of (if c then Texts else if d then Tuples m n else Apart) w ≡ all_asked (if c then Help helper.StrEqual ∷ [] else if d then Make (small.Equal m n) ∷ [] else []) w.found
  pointers_asked m n true d w = refl
  pointers_asked m n false true w = refl
  pointers_asked m n false false w = refl

  pub asks_are : (s t : LlType) (w : Writing) → found_of (test_of layout s t) w ≡ all_asked (equal_asks layout s t) w.found
  asks_are type.Signed type.Signed w = refl
  asks_are type.Bool type.Bool w = refl
  asks_are type.Char type.Char w = refl
  asks_are type.Char (type.Ptr n) w = byte_asked (n == 0) w
  asks_are (type.Ptr m) type.Char w = to_byte_asked (m == 0) w
  asks_are type.Bool (type.Ptr n) w = refl
  asks_are (type.Ptr m) type.Bool w = refl
  asks_are (type.Ptr m) (type.Ptr n) w = pointers_asked m n ((m == 0) && (n == 0)) (is_tuple layout m && is_tuple layout n) w
  asks_are _ _ w = refl

-- the operand is a constant, or a variable that was made
pub under : (t : Test) (w : Writing) → IsBelow (length w.body.types + length (new_of t)) (operand_of t w)
under Words w = omega arith
under Truths w = omega arith
under Bytes w =
    let a : length ((w.body.types ++ type.Signed ∷ []) ++ type.Signed ∷ []) ≡ length (w.body.types ++ type.Signed ∷ []) + 1 = length-append (w.body.types ++ type.Signed ∷ []) (type.Signed ∷ []) in
    let b : length (w.body.types ++ type.Signed ∷ []) ≡ length w.body.types + 1 = length-append w.body.types (type.Signed ∷ []) in
    omega (arith, a, b)
under FromByte w = (let b : length (w.body.types ++ type.Ptr 0 ∷ []) ≡ length w.body.types + 1 = length-append w.body.types (type.Ptr 0 ∷ []) in omega (arith, b))
under ToByte w = (let b : length (w.body.types ++ type.Ptr 0 ∷ []) ≡ length w.body.types + 1 = length-append w.body.types (type.Ptr 0 ∷ []) in omega (arith, b))
under SecondNull w = omega arith
under FirstNull w = omega arith
under Texts w = omega arith
under (Tuples m n) w = omega arith
under Apart w = tt
