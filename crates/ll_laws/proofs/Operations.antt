-- Operations that stay in their block lead from a core that fits to one that fits.
use Rattle.std.proofs.Common.{◌≡◌, ℕ, zero, suc, ◌+◌, Bool, true, false, List, [], ◌∷◌, length, Option, Some, None, Ok, Err, refl, sym, ap, ◌∙◌, subst, arith, ℤ, pos, negsuc, ◌⊎◌, inl, inr}
use Rattle.std.specs.Prelude.{slice_get, slice_set, slice_index_or, nat_lt, nat_le, cond, option_map}
use Rattle.csub_tree.specs.State.{Value, Unset, Word, Null, Ptr, Static, Core, After, Onward, Puts, Over, Stuck}
use Rattle.csub_tree.specs.Operation.{Answer, unary_of, binary_of, word_of, is_unset}
use Rattle.csub_tree.specs.Statement.{read, operand, set, assigned, answered, on, pay_steps, in_range, argument, byte_in, put_word}
use Rattle.csub_tree.specs.declared.stuck.StuckReason.TheVariants.{Unset as IsUnset, Word as BadWord}
use Rattle.csub_tree.specs.declared.tree.COperand.{COperand}
use Rattle.ll_code.specs.declared.program.LlType.{LlType}
use Rattle.ll_code.specs.declared.program.LlType.TheVariants as type
use Rattle.ll_code.specs.declared.program.LlOp.{LlOp}
use Rattle.ll_code.specs.declared.program.LlOp.TheVariants as op
use Rattle.ll_code.specs.declared.program.LlProgram.{LlProgram}
use Rattle.ll_code.specs.Typed.{operation_ok, given_takes, points}
use Rattle.ll_code.specs.Machine.{does}
use Rattle.ll_laws.specs.Fits.{Fits, exception, AnswerFits, AllFit, CoreFits, Follows, AfterFits}
use Rattle.ll_laws.proofs.Values.{and_left, and_right, has_type_is, unary_fits, binary_fits, operand_fits}

-- ---- lists

-- a place holds what it held, or is the one that was set
pub set_at : {A : Type 0} (xs : List A) (a b : ℕ) (x d : A) → (slice_index_or (slice_set xs a x) b d ≡ slice_index_or xs b d) ⊎ ((a ≡ b) × (slice_index_or (slice_set xs a x) b d ≡ x))
set_at [] a b x d = inl refl
set_at (y ∷ xs) zero zero x d = inr (refl, refl)
set_at (y ∷ xs) zero (suc b) x d = inl refl
set_at (y ∷ xs) (suc a) zero x d = inl refl
set_at (y ∷ xs) (suc a) (suc b) x d = deeper (set_at xs a b x d)
  where
    deeper : (slice_index_or (slice_set xs a x) b d ≡ slice_index_or xs b d) ⊎ ((a ≡ b) × (slice_index_or (slice_set xs a x) b d ≡ x))
        → (slice_index_or (slice_set xs a x) b d ≡ slice_index_or xs b d) ⊎ ((suc a ≡ suc b) × (slice_index_or (slice_set xs a x) b d ≡ x))
    deeper (inl e) = inl e
    deeper (inr e) = inr (ap suc e.0, e.1)

pub length_set : {A : Type 0} (xs : List A) (a : ℕ) (x : A) → length (slice_set xs a x) ≡ length xs
length_set [] a x = refl
length_set (y ∷ xs) zero x = refl
length_set (y ∷ xs) (suc a) x = ap suc (length_set xs a x)

pub vars_set : (p : LlProgram) (made : ℕ) (types : List LlType) (vars : List Value) (a : ℕ) (t : LlType) (value : Value) → AllFit p made types vars → slice_get types a ≡ Some t → Fits p made t value
    → AllFit p made types (slice_set vars a value)
vars_set p made types vars a t value fit is h = record { count = length_set vars a value ∙ fit.count; at = λ b u e. at b u e (set_at vars a b value Unset) }
  where
    at : (b : ℕ) (u : LlType) → slice_get types b ≡ Some u → (slice_index_or (slice_set vars a value) b Unset ≡ slice_index_or vars b Unset) ⊎ ((a ≡ b) × (slice_index_or (slice_set vars a value) b Unset ≡ value))
        → Fits p made u (read (slice_set vars a value) b)
    at b u e (inl same) = subst (Fits p made u) (sym same) (fit.at b u e)
    at b u e (inr new) =
        let f : Some t ≡ Some u = sym is ∙ ap (slice_get types) new.0 ∙ e in let g : t ≡ u = cc in subst (Fits p made u) (sym new.1) (subst (λ t. Fits p made t value) g h)

-- a pointer is one of any struct
pub any_pointer : (p : LlProgram) (made m n : ℕ) (value : Value) → Fits p made (type.Ptr m) value → Fits p made (type.Ptr n) value
any_pointer p made m n Unset h = tt
any_pointer p made m n Null h = tt
any_pointer p made m n (Ptr b) h = h
any_pointer p made m n (Static g) h = h
any_pointer p made m n other h = absurd h

-- the operation reads and writes no block
abbrev pub is_plain : LlOp → Bool
is_plain (op.GetField a n b k) = false
is_plain (op.SetField n b k x) = false
is_plain (op.GetItem a n b i) = false
is_plain (op.SetItem n b i x) = false
is_plain (op.New a cast n) = false
is_plain (op.NewArray a cast n x) = false
is_plain (op.Free a) = false
is_plain (op.Call into f xs) = false
is_plain (op.CallFn into result params b xs) = false
is_plain (op.Raise a) = false
is_plain other = true

-- ---- what follows

module _ (p : LlProgram) (types : List LlType) (core : Core) (fit : CoreFits p types core) where
  pub assigned_fits : (a : ℕ) (t : LlType) (value : Value) → slice_get types a ≡ Some t → Fits p (length core.blocks) t value → AfterFits p types core (assigned core a value)
  assigned_fits a t value is h =
      record { graph = refl; grows = omega arith; fits = record { vars = vars_set p (length core.blocks) types core.vars a t value fit.vars is h; memory = fit.memory } }

  pub choice_fits : (b : Bool) (x y : After) → AfterFits p types core x → AfterFits p types core y → AfterFits p types core (cond b x y)
  choice_fits true x y h k = h
  choice_fits false x y h k = k

  pub set_fits : (a : ℕ) (t : LlType) (value : Value) → slice_get types a ≡ Some t → Fits p (length core.blocks) t value → AfterFits p types core (set core a value)
  set_fits a t value is h = choice_fits (is_unset value) (Stuck IsUnset) (assigned core a value) tt (assigned_fits a t value is h)

  answered_fits : (a : ℕ) (t : LlType) (answer : Answer) → slice_get types a ≡ Some t → AnswerFits p (length core.blocks) t answer → AfterFits p types core (answered core a answer)
  answered_fits a t (Ok value) is h = assigned_fits a t value is h
  answered_fits a t (Err reason) is h = tt

  pub on_fits : {X : Type 0} (go : X → After) (o : Option X) → ((x : X) → AfterFits p types core (go x)) → AfterFits p types core (on go o)
  on_fits go None h = tt
  on_fits go (Some x) h = h x

  in_range_fits : (a : ℕ) (o : Option ℕ) → slice_get types a ≡ Some type.Signed → AfterFits p types core (in_range core a o)
  in_range_fits a None is = tt
  in_range_fits a (Some n) is = assigned_fits a type.Signed (Word (pos n)) is tt

  -- nothing changes but the place and the steps left
  moved : (at steps : ℕ) → Follows p types core (record core { at = at; steps = steps })
  moved at steps = record { graph = refl; grows = omega arith; fits = record { vars = fit.vars; memory = fit.memory } }

  pay_fits : (z : ℤ) → AfterFits p types core (pay_steps core z)
  pay_fits (pos n) = choice_fits (nat_le n core.steps) _ (Over _ core) (moved _ _) tt
  pay_fits (negsuc n) = tt

  put_fits : (z : ℤ) → AfterFits p types core (put_word core z)
  put_fits (pos n) = choice_fits (nat_lt n 256) (Puts n (record core { at = core.at + 1 })) (Stuck BadWord) (moved (core.at + 1) core.steps) tt
  put_fits (negsuc n) = tt

  pub pointer_at : (a : ℕ) (o : Option LlType) → slice_get types a ≡ o → points o ≡ true → Fits p (length core.blocks) exception (read core.vars a)
  pointer_at a (Some (type.Ptr n)) e h = any_pointer p (length core.blocks) n 0 (read core.vars a) (fit.vars.at a (type.Ptr n) e)
  pointer_at a other e h = absurd (cc)

  pub given_at : (a : ℕ) (o : Option LlType) (x : COperand) → slice_get types a ≡ o → given_takes p types o x ≡ true → AfterFits p types core (set core a (operand core.vars x))
  given_at a None x e h = absurd (cc)
  given_at a (Some t) x e h = set_fits a t (operand core.vars x) e (operand_fits p (length core.blocks) types core.vars fit.vars t x h)

  pub slots_fit : (type value : Value) → Fits p (length core.blocks) exception type → Fits p (length core.blocks) exception value → Follows p types core (record core { at = core.at + 1; exc_type = type; exc_value = value })
  slots_fit type value h k = record {
    graph = refl;
    grows = omega arith;
    fits = record { vars = fit.vars; memory = record { each = fit.memory.each; static_count = fit.memory.static_count; each_static = fit.memory.each_static; slot_type = h; slot_value = k } };
  }

  pub plain_fits : (args : List (List ℕ)) (o : LlOp) → is_plain o ≡ true → operation_ok p types o ≡ true → AfterFits p types core (does p args core o)
  plain_fits args (op.Set a x) plain ok = given_at a (slice_get types a) x refl ok
  plain_fits args (op.Unary a o x) plain ok = answered_fits a _ (unary_of o (operand core.vars x)) (has_type_is _ _ (and_left _ _ ok)) (unary_fits p (length core.blocks) o (operand core.vars x))
  plain_fits args (op.Binary a o x y) plain ok =
      answered_fits a _ (binary_of o (operand core.vars x) (operand core.vars y)) (has_type_is _ _ (and_left _ _ ok)) (binary_fits p (length core.blocks) o (operand core.vars x) (operand core.vars y))
  plain_fits args (op.Step x) plain ok = on_fits (pay_steps core) (word_of (operand core.vars x)) pay_fits
  plain_fits args (op.ExcType a s) plain ok = assigned_fits a (type.Ptr s) core.exc_type (has_type_is _ _ (and_right _ _ ok)) (any_pointer p (length core.blocks) 0 s core.exc_type fit.memory.slot_type)
  plain_fits args (op.ExcValue a s) plain ok = assigned_fits a (type.Ptr s) core.exc_value (has_type_is _ _ (and_right _ _ ok)) (any_pointer p (length core.blocks) 0 s core.exc_value fit.memory.slot_value)
  plain_fits args (op.ExcSet a b) plain ok =
      choice_fits _ (Stuck IsUnset) (Onward (record core { at = core.at + 1; exc_type = read core.vars a; exc_value = read core.vars b })) tt
      (slots_fit (read core.vars a) (read core.vars b) (pointer_at a _ refl (and_left _ _ ok)) (pointer_at b _ refl (and_right _ _ ok)))
  plain_fits args op.ExcClear plain ok = slots_fit Null Null tt tt
  plain_fits args (op.Argc a) plain ok = assigned_fits a type.Signed (Word (pos (length args))) (has_type_is _ _ ok) tt
  plain_fits args (op.ArgLen a x) plain ok =
      on_fits (λ i. in_range core a (option_map length (argument args i))) (word_of (operand core.vars x)) (λ i. in_range_fits a (option_map length (argument args i)) (has_type_is _ _ (and_left _ _ ok)))
  plain_fits args (op.Arg a x y) plain ok =
      on_fits (λ i. on (λ j. in_range core a (byte_in (argument args i) j)) (word_of (operand core.vars y))) (word_of (operand core.vars x))
      (λ i. on_fits (λ j. in_range core a (byte_in (argument args i) j)) (word_of (operand core.vars y))
      (λ j. in_range_fits a (byte_in (argument args i) j) (has_type_is _ _ (and_left _ _ (and_left _ _ ok)))))
  plain_fits args (op.Put x) plain ok = on_fits (put_word core) (word_of (operand core.vars x)) put_fits
  plain_fits args other plain ok = absurd (cc)
