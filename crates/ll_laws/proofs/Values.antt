-- Values of operators, constants and operands are of their types.
use Rattle.std.proofs.Common.{◌≡◌, ◌<◌, ◌≤◌, ℕ, zero, suc, Bool, true, false, ◌&&◌, ◌||◌, ◌==◌, List, length, Option, Some, None, Ok, Err, refl, sym, ap, arith, ℤ, pos, negsuc}
use Rattle.std.specs.Prelude.{slice_get, nat_lt, cond}
use Rattle.csub_tree.specs.State.{Value, Byte}
use Rattle.csub_tree.specs.Layout.{constant}
use Rattle.csub_tree.specs.Operation.{Answer, given, on_words, on_flags, flag, word_of, flag_of, byte_of, nonzero, shift_by, to_byte, compared, unary_of, binary_of, is_unset, same}
use Rattle.csub_tree.specs.Statement.{operand}
use Rattle.csub_tree.specs.declared.stuck.StuckReason.TheVariants.{Unset as IsUnset}
use Rattle.csub_tree.specs.declared.tree.CConst.{CConst}
use Rattle.csub_tree.specs.declared.tree.CConst.TheVariants as constant
use Rattle.csub_tree.specs.declared.tree.COperand.{COperand}
use Rattle.csub_tree.specs.declared.tree.COperand.TheVariants.{Var, Const}
use Rattle.csub_tree.specs.declared.tree.CUnary.{CUnary}
use Rattle.csub_tree.specs.declared.tree.CUnary.TheVariants as one
use Rattle.csub_tree.specs.declared.tree.CBinary.{CBinary}
use Rattle.csub_tree.specs.declared.tree.CBinary.TheVariants as two
use Rattle.ll_code.specs.declared.program.LlType.{LlType}
use Rattle.ll_code.specs.declared.program.LlType.TheVariants as type
use Rattle.ll_code.specs.declared.program.LlProgram.{LlProgram}
use Rattle.ll_code.specs.Typed.{same_type, has_type, is_of_any, is_of, takes, unary_gives, binary_gives}
use Rattle.ll_laws.specs.Fits.{Fits, AnswerFits, AllFit}

-- ---- tests

pub and_left : (a b : Bool) → (a && b) ≡ true → a ≡ true
and_left true b e = refl
and_left false b e = e

pub and_right : (a b : Bool) → (a && b) ≡ true → b ≡ true
and_right true b e = e
and_right false b e = absurd (cc)

pub is_same : (m n : ℕ) → (m == n) ≡ true → m ≡ n
is_same m n e = grind arith

pub is_less : (m n : ℕ) → nat_lt m n ≡ true → m < n
is_less m n e = grind arith

pub same_type_is : (s t : LlType) → same_type s t ≡ true → s ≡ t
same_type_is type.Signed type.Signed e = refl
same_type_is type.Char type.Char e = refl
same_type_is type.Bool type.Bool e = refl
same_type_is type.Fn type.Fn e = refl
same_type_is (type.Ptr m) (type.Ptr n) e = ap type.Ptr (is_same m n e)
same_type_is s t e = absurd (cc)

pub has_type_is : (t : LlType) (o : Option LlType) → has_type t o ≡ true → o ≡ Some t
has_type_is t None e = absurd (cc)
has_type_is t (Some u) e = ap Some (sym (same_type_is t u e))

-- ---- operators

module _ (p : LlProgram) (made : ℕ) where
  given_fits : {X : Type 0} (t : LlType) (f : X → Answer) (o : Option X) → ((x : X) → AnswerFits p made t (f x)) → AnswerFits p made t (given f o)
  given_fits t f None h = tt
  given_fits t f (Some x) h = h x

  words_fit : (t : LlType) (f : ℤ → ℤ → Answer) (x y : Value) → ((a b : ℤ) → AnswerFits p made t (f a b)) → AnswerFits p made t (on_words f x y)
  words_fit t f x y h = given_fits t (λ a. given (λ b. f a b) (word_of y)) (word_of x) (λ a. given_fits t (λ b. f a b) (word_of y) (h a))

  flags_fit : (t : LlType) (f : Bool → Bool → Answer) (x y : Value) → ((a b : Bool) → AnswerFits p made t (f a b)) → AnswerFits p made t (on_flags f x y)
  flags_fit t f x y h = given_fits t (λ a. given (λ b. f a b) (flag_of y)) (flag_of x) (λ a. given_fits t (λ b. f a b) (flag_of y) (h a))

  nonzero_fits : (t : LlType) (answer : Answer) (b : ℤ) → AnswerFits p made t answer → AnswerFits p made t (nonzero answer b)
  nonzero_fits t answer (pos zero) h = tt
  nonzero_fits t answer (pos (suc n)) h = h
  nonzero_fits t answer (negsuc n) h = h

  choice_fits : (t : LlType) (b : Bool) (x y : Answer) → AnswerFits p made t x → AnswerFits p made t y → AnswerFits p made t (cond b x y)
  choice_fits t true x y h k = h
  choice_fits t false x y h k = k

  shift_fits : (t : LlType) (f : ℕ → Answer) (b : ℤ) → ((k : ℕ) → AnswerFits p made t (f k)) → AnswerFits p made t (shift_by f b)
  shift_fits t f (pos k) h = choice_fits t (nat_lt k 64) (f k) (Err _) (h k) tt
  shift_fits t f (negsuc k) h = tt

  byte_fits : (z : ℤ) → AnswerFits p made type.Char (to_byte z)
  byte_fits (pos n) = choice_fits type.Char (nat_lt n 256) (Ok (Byte n)) (Err _) tt tt
  byte_fits (negsuc n) = tt

  compared_fits : (x y : Value) → AnswerFits p made type.Bool (compared x y)
  compared_fits x y = choice_fits type.Bool (is_unset x || is_unset y) (Err IsUnset) (flag (same x y)) tt tt

  pub unary_fits : (o : CUnary) (x : Value) → AnswerFits p made (unary_gives o) (unary_of o x)
  unary_fits one.Neg x = given_fits type.Signed _ (word_of x) (λ a. tt)
  unary_fits one.Inv x = given_fits type.Signed _ (word_of x) (λ a. tt)
  unary_fits one.Not x = given_fits type.Bool _ (flag_of x) (λ a. tt)
  unary_fits one.C2S x = given_fits type.Signed _ (byte_of x) (λ a. tt)
  unary_fits one.S2C x = given_fits type.Char _ (word_of x) byte_fits
  unary_fits one.B2S x = given_fits type.Signed _ (flag_of x) (λ a. tt)

  pub binary_fits : (o : CBinary) (x y : Value) → AnswerFits p made (binary_gives o) (binary_of o x y)
  binary_fits two.Add x y = words_fit type.Signed _ x y (λ a b. tt)
  binary_fits two.Sub x y = words_fit type.Signed _ x y (λ a b. tt)
  binary_fits two.Mul x y = words_fit type.Signed _ x y (λ a b. tt)
  binary_fits two.Div x y = words_fit type.Signed _ x y (λ a b. nonzero_fits type.Signed _ b tt)
  binary_fits two.Mod x y = words_fit type.Signed _ x y (λ a b. nonzero_fits type.Signed _ b tt)
  binary_fits two.Shl x y = words_fit type.Signed _ x y (λ a b. shift_fits type.Signed _ b (λ k. tt))
  binary_fits two.Shr x y = words_fit type.Signed _ x y (λ a b. shift_fits type.Signed _ b (λ k. tt))
  binary_fits two.And x y = words_fit type.Signed _ x y (λ a b. tt)
  binary_fits two.Or x y = words_fit type.Signed _ x y (λ a b. tt)
  binary_fits two.Xor x y = words_fit type.Signed _ x y (λ a b. tt)
  binary_fits two.ShlOvf x y = words_fit type.Bool _ x y (λ a b. shift_fits type.Bool _ b (λ k. tt))
  binary_fits two.Beq x y = flags_fit type.Bool _ x y (λ a b. tt)
  binary_fits two.Peq x y = compared_fits x y
  binary_fits two.Feq x y = compared_fits x y
  binary_fits other x y = words_fit type.Bool _ x y (λ a b. tt)

  -- ---- constants and operands

  -- a static may be named where its number is below this one
  pub constant_below : (below : ℕ) → below ≤ length p.statics → (t : LlType) (c : CConst) → is_of p below t c ≡ true → Fits p made t (constant c)
  constant_below below le type.Signed (constant.Word z) e = tt
  constant_below below le type.Char (constant.Char b) e = tt
  constant_below below le type.Bool (constant.Bool b) e = tt
  constant_below below le type.Fn constant.Null e = tt
  constant_below below le type.Fn (constant.Fun f) e = is_less f _ e
  constant_below below le (type.Ptr n) constant.Null e = tt
  constant_below below le (type.Ptr n) (constant.Static s g) e = let lt : g < below = is_less g below (and_right (n == s) (nat_lt g below) (and_left _ _ e)) in omega (arith, lt, le)
  constant_below below le t other e = absurd (cc)

  pub constant_fits : (t : LlType) (c : CConst) → is_of_any p t c ≡ true → Fits p made t (constant c)
  constant_fits t c e = constant_below (length p.statics) (omega arith) t c e

  pub operand_fits : (types : List LlType) (vars : List Value) → AllFit p made types vars → (t : LlType) (x : COperand) → takes p types t x ≡ true → Fits p made t (operand vars x)
  operand_fits types vars fit t (Var v) e = fit.at v t (has_type_is t (slice_get types v) e)
  operand_fits types vars fit t (Const c) e = constant_fits t c e
