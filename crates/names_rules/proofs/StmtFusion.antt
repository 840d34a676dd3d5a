-- A fold of statements after which a function is applied is a fold, where it is so layer by layer.
use Rattle.std.proofs.Common.{◌≡◌, sym, ap, ◌∙◌}
use Rattle.rpy_tree.specs.declared.syntax.Stmt.{Stmt, fold-Stmt, fold-roll-Stmt, map-Stmt, ind-Stmt}
use Rattle.rpy_tree.specs.declared.syntax.Stmt.TheFolds.{fold-Clause, fold-roll-Clause, map-Clause, ind-Clause}
use Rattle.rpy_tree.specs.declared.syntax.Stmt.TheOpen.{Stmt-F, Clause-F}
use Rattle.rpy_tree.specs.declared.syntax.Clause.{Clause}
use Rattle.names_rules.proofs.Layers.{stmt_twice, clause_twice, stmt_alike, clause_alike}

module _ (A B C D : Type 0) (f : A → C) (g : B → D)
    (step : Stmt-F A B → A) (step' : Clause-F A B → B) (done : Stmt-F C D → C) (done' : Clause-F C D → D)
    (layer : (x : Stmt-F A B) → f (step x) ≡ done (map-Stmt A B C D f g x))
    (layer' : (x : Clause-F A B) → g (step' x) ≡ done' (map-Clause A B C D f g x)) where
  abbrev first : Stmt → A
  first e = fold-Stmt A B step step' e

  abbrev first' : Clause → B
  first' t = fold-Clause A B step step' t

  abbrev whole : Stmt → C
  whole e = fold-Stmt C D done done' e

  abbrev whole' : Clause → D
  whole' t = fold-Clause C D done done' t

  stmt_layer : (x : Stmt-F Stmt Clause) → map-Stmt Stmt Clause C D (λ e. f (first e)) (λ t. g (first' t)) x ≡ map-Stmt Stmt Clause C D whole whole' x → f (step (map-Stmt Stmt Clause A B first first' x)) ≡ done (map-Stmt Stmt Clause C D whole whole' x)
  stmt_layer x e = layer (map-Stmt Stmt Clause A B first first' x) ∙ ap done (stmt_twice Stmt Clause A B C D first first' f g x ∙ e)

  clause_layer : (x : Clause-F Stmt Clause) → map-Clause Stmt Clause C D (λ e. f (first e)) (λ t. g (first' t)) x ≡ map-Clause Stmt Clause C D whole whole' x → g (step' (map-Clause Stmt Clause A B first first' x)) ≡ done' (map-Clause Stmt Clause C D whole whole' x)
  clause_layer x e = layer' (map-Clause Stmt Clause A B first first' x) ∙ ap done' (clause_twice Stmt Clause A B C D first first' f g x ∙ e)

  pub stmt_fuses : (e : Stmt) → f (fold-Stmt A B step step' e) ≡ fold-Stmt C D done done' e
  stmt_fuses = ind-Stmt (λ e. f (first e) ≡ whole e) (λ t. g (first' t) ≡ whole' t)
      (λ x y is. ap f (fold-roll-Stmt A B step step' x) ∙ stmt_layer x (stmt_alike Stmt Clause _ _ C D (λ p. p.0) (λ p. p.0) (λ e. f (first e)) whole (λ t. g (first' t)) whole' (λ p. p.1) (λ p. p.1) x y is) ∙ sym (fold-roll-Stmt C D done done' x))
      (λ x y is. ap g (fold-roll-Clause A B step step' x) ∙ clause_layer x (clause_alike Stmt Clause _ _ C D (λ p. p.0) (λ p. p.0) (λ e. f (first e)) whole (λ t. g (first' t)) whole' (λ p. p.1) (λ p. p.1) x y is) ∙ sym (fold-roll-Clause C D done done' x))

  pub clause_fuses : (t : Clause) → g (fold-Clause A B step step' t) ≡ fold-Clause C D done done' t
  clause_fuses = ind-Clause (λ e. f (first e) ≡ whole e) (λ t. g (first' t) ≡ whole' t)
      (λ x y is. ap f (fold-roll-Stmt A B step step' x) ∙ stmt_layer x (stmt_alike Stmt Clause _ _ C D (λ p. p.0) (λ p. p.0) (λ e. f (first e)) whole (λ t. g (first' t)) whole' (λ p. p.1) (λ p. p.1) x y is) ∙ sym (fold-roll-Stmt C D done done' x))
      (λ x y is. ap g (fold-roll-Clause A B step step' x) ∙ clause_layer x (clause_alike Stmt Clause _ _ C D (λ p. p.0) (λ p. p.0) (λ e. f (first e)) whole (λ t. g (first' t)) whole' (λ p. p.1) (λ p. p.1) x y is) ∙ sym (fold-roll-Clause C D done done' x))
