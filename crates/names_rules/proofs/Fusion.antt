-- A fold of expressions after which a function is applied is a fold, where it is so layer by layer.
use Rattle.std.proofs.Common.{◌≡◌, sym, ap, ◌∙◌}
use Rattle.rpy_tree.specs.declared.syntax.Expr.{Expr, fold-Expr, fold-roll-Expr, map-Expr, ind-Expr}
use Rattle.rpy_tree.specs.declared.syntax.Expr.TheFolds.{fold-Target, fold-roll-Target, map-Target, ind-Target}
use Rattle.rpy_tree.specs.declared.syntax.Expr.TheOpen.{Expr-F, Target-F}
use Rattle.rpy_tree.specs.declared.syntax.Target.{Target}
use Rattle.names_rules.proofs.Layers.{expr_twice, target_twice, expr_alike, target_alike}

module _ (A B C D : Type 0) (f : A → C) (g : B → D)
    (step : Expr-F A B → A) (step' : Target-F A B → B) (done : Expr-F C D → C) (done' : Target-F C D → D)
    (layer : (x : Expr-F A B) → f (step x) ≡ done (map-Expr A B C D f g x))
    (layer' : (x : Target-F A B) → g (step' x) ≡ done' (map-Target A B C D f g x)) where
  abbrev first : Expr → A
  first e = fold-Expr A B step step' e

  abbrev first' : Target → B
  first' t = fold-Target A B step step' t

  abbrev whole : Expr → C
  whole e = fold-Expr C D done done' e

  abbrev whole' : Target → D
  whole' t = fold-Target C D done done' t

  expr_layer : (x : Expr-F Expr Target) → map-Expr Expr Target C D (λ e. f (first e)) (λ t. g (first' t)) x ≡ map-Expr Expr Target C D whole whole' x → f (step (map-Expr Expr Target A B first first' x)) ≡ done (map-Expr Expr Target C D whole whole' x)
  expr_layer x e = layer (map-Expr Expr Target A B first first' x) ∙ ap done (expr_twice Expr Target A B C D first first' f g x ∙ e)

  target_layer : (x : Target-F Expr Target) → map-Target Expr Target C D (λ e. f (first e)) (λ t. g (first' t)) x ≡ map-Target Expr Target C D whole whole' x → g (step' (map-Target Expr Target A B first first' x)) ≡ done' (map-Target Expr Target C D whole whole' x)
  target_layer x e = layer' (map-Target Expr Target A B first first' x) ∙ ap done' (target_twice Expr Target A B C D first first' f g x ∙ e)

  pub expr_fuses : (e : Expr) → f (fold-Expr A B step step' e) ≡ fold-Expr C D done done' e
  expr_fuses = ind-Expr (λ e. f (first e) ≡ whole e) (λ t. g (first' t) ≡ whole' t)
      (λ x y is. ap f (fold-roll-Expr A B step step' x) ∙ expr_layer x (expr_alike Expr Target _ _ C D (λ p. p.0) (λ p. p.0) (λ e. f (first e)) whole (λ t. g (first' t)) whole' (λ p. p.1) (λ p. p.1) x y is) ∙ sym (fold-roll-Expr C D done done' x))
      (λ x y is. ap g (fold-roll-Target A B step step' x) ∙ target_layer x (target_alike Expr Target _ _ C D (λ p. p.0) (λ p. p.0) (λ e. f (first e)) whole (λ t. g (first' t)) whole' (λ p. p.1) (λ p. p.1) x y is) ∙ sym (fold-roll-Target C D done done' x))

  pub target_fuses : (t : Target) → g (fold-Target A B step step' t) ≡ fold-Target C D done done' t
  target_fuses = ind-Target (λ e. f (first e) ≡ whole e) (λ t. g (first' t) ≡ whole' t)
      (λ x y is. ap f (fold-roll-Expr A B step step' x) ∙ expr_layer x (expr_alike Expr Target _ _ C D (λ p. p.0) (λ p. p.0) (λ e. f (first e)) whole (λ t. g (first' t)) whole' (λ p. p.1) (λ p. p.1) x y is) ∙ sym (fold-roll-Expr C D done done' x))
      (λ x y is. ap g (fold-roll-Target A B step step' x) ∙ target_layer x (target_alike Expr Target _ _ C D (λ p. p.0) (λ p. p.0) (λ e. f (first e)) whole (λ t. g (first' t)) whole' (λ p. p.1) (λ p. p.1) x y is) ∙ sym (fold-roll-Target C D done done' x))
