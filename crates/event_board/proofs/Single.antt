-- What a question is answered is one thing, but for supports.
use Rattle.std.proofs.Common.{◌≡◌, ℕ, zero, suc, true, false, List, [], ◌∷◌, length, take, drop, Some, refl, sym, ap, subst, ◌∙◌, ◌⊎◌, inl, inr, arith}
use Rattle.std.specs.Prelude.{slice_get}
use Rattle.std.proofs.lemmas.Bool.{false≢true}
use Rattle.std.proofs.lemmas.Option.{same_Some}
use Rattle.fc_base.specs.declared.ids.PropId.{PropId}
use Rattle.fc_base.specs.declared.verdict.Verdict.{Verdict}
use Rattle.c_ir.specs.Props.{Props}
use Rattle.status_history.specs.Values.{values_now}
use Rattle.status_history.specs.declared.history.History.{History}
use Rattle.status_rules.specs.Answers.{IsBody, all_props}
use Rattle.status_rules.specs.Fetch.{Has, IsGiven, IsPage, Row, cursor_at, is_after, is_left, last_cursor, page, rows_of}
use Rattle.status_rules.specs.Verdicts.{full_of}
use Rattle.status_rules.specs.declared.questions.Answer.{Answer}
use Rattle.status_rules.specs.declared.questions.Body.{Body}
use Rattle.status_rules.specs.declared.questions.Body.TheVariants as B
use Rattle.status_rules.specs.declared.questions.Cursor.{Cursor}
use Rattle.status_rules.specs.declared.questions.Fetched.{Fetched}
use Rattle.status_rules.specs.declared.questions.Question.{Question}
use Rattle.status_rules.specs.declared.questions.Question.TheVariants as Q
use Rattle.event_board.specs.Laws.{AnswersAreOne, asks_support}
use Rattle.event_board.proofs.Order.{any_has, after_last, after_more, not_both, not_itself, rising_after}

-- the first rows after a cursor, as many as the limit says if others are left
record Given (rs : List Row) (c : Cursor) (limit : ℕ) (given : List Row) : Type 0 where
  is : IsGiven rs c limit given
  all : is_left rs (last_cursor c given) ≡ true → length given ≡ limit

rest_given : (rs : List Row) (c : Cursor) (l : ℕ) (x : Row) (xs : List Row) → Given rs c (suc l) (x ∷ xs)
    → Given rs (cursor_at x) l xs
rest_given rs c l x xs given = record {
  is = record {
    rising = given.is.rising.1;
    of_rows = λ r h. given.is.of_rows r (inr h);
    first = λ r h after. elim (given.is.first r h (after_more c x r given.is.rising.0 after)) [
      | inl here ↦ elim here [
        | inl same ↦ absurd (not_itself x (ap (is_after (cursor_at x)) same ∙ after))
        | inr later ↦ inl later
      ]
      | inr last ↦ inr last
    ];
    within = omega (arith, given.is.within);
  };
  all = λ some. let whole = given.all some in omega (arith, whole);
}

first_or_after : (rs : List Row) (c : Cursor) (limit : ℕ) (x : Row) (xs : List Row) (y : Row)
    → IsGiven rs c limit (x ∷ xs) → Has rs y → is_after c y ≡ true
    → (x ≡ y) ⊎ (is_after (cursor_at x) y ≡ true)
first_or_after rs c limit x xs y given h after =
    elim (given.first y h after) [
      | inl here ↦ elim here [ inl same ↦ inl same | inr later ↦ inr (rising_after (cursor_at x) xs y given.rising.1 later) ]
      | inr last ↦ inr (after_last (cursor_at x) xs y given.rising.1 last)
    ]

same_first : (rs : List Row) (c : Cursor) (limit : ℕ) (x : Row) (xs : List Row) (y : Row) (ys : List Row)
    → IsGiven rs c limit (x ∷ xs) → IsGiven rs c limit (y ∷ ys) → x ≡ y
same_first rs c limit x xs y ys a b =
    elim (first_or_after rs c limit x xs y a (b.of_rows y (inl refl)) b.rising.0) [
      | inl same ↦ same
      | inr after ↦ elim (first_or_after rs c limit y ys x b (a.of_rows x (inl refl)) a.rising.0) [
        | inl same ↦ sym same
        | inr back ↦ absurd (not_both x y after back)
      ]
    ]

none_given : (rs : List Row) (c : Cursor) (limit : ℕ) (y : Row) (ys : List Row) → Given rs c limit []
    → Given rs c limit (y ∷ ys) → ⊥
none_given rs c limit y ys none some =
    let whole = none.all (any_has (is_after c) rs y (some.is.of_rows y (inl refl)) some.is.rising.0) in
    let within = some.is.within in
    absurd (omega (arith, whole, within))

given_one : (rs : List Row) (c : Cursor) (limit : ℕ) (xs ys : List Row) → Given rs c limit xs
    → Given rs c limit ys → xs ≡ ys
given_one rs c limit [] [] a b = refl
given_one rs c limit [] (y ∷ ys) a b = absurd (none_given rs c limit y ys a b)
given_one rs c limit (x ∷ xs) [] a b = absurd (none_given rs c limit x xs b a)
given_one rs c zero (x ∷ xs) (y ∷ ys) a b = let within = a.is.within in absurd (omega (arith, within))
given_one rs c (suc l) (x ∷ xs) (y ∷ ys) a b =
    let same = same_first rs c (suc l) x xs y ys a.is b.is in
    let rest = given_one rs (cursor_at x) l xs ys (rest_given rs c l x xs a) (subst (λ (z : Row). Given rs (cursor_at z) l ys) (sym same) (rest_given rs c l y ys b)) in
    ap (λ zs. x ∷ zs) rest ∙ ap (λ z. z ∷ ys) same

page_one : (rs : List Row) (len : ℕ) (c : Cursor) (limit : ℕ) (f g : Fetched) → IsPage rs len c limit f
    → IsPage rs len c limit g → f ≡ g
page_one rs len c limit f g a b =
    let same = given_one rs c limit a.given b.given (record { is = a.is_given; all = a.all_taken }) (record { is = b.is_given; all = b.all_taken }) in
    a.is_page ∙ (ap (λ gs. page (is_left rs (last_cursor c gs)) len c gs) same ∙ sym b.is_page)

-- what is answered besides the counts
params_is : (t : Props) (h : History) (b : Body) → IsBody t h Q.Params b → b ≡ B.Params (values_now h)
params_is t h (B.Params values) is = ap B.Params is
params_is t h (B.Rows ps) is = absurd is
params_is t h (B.Status v) is = absurd is
params_is t h (B.Support s) is = absurd is
params_is t h (B.Fetched f) is = absurd is
params_is t h B.Count is = absurd is

list_is : (t : Props) (h : History) (from limit : ℕ) (b : Body) → IsBody t h (Q.List from limit) b
    → b ≡ B.Rows (take limit (drop from (all_props t)))
list_is t h from limit (B.Params values) is = absurd is
list_is t h from limit (B.Rows ps) is = ap B.Rows is
list_is t h from limit (B.Status v) is = absurd is
list_is t h from limit (B.Support s) is = absurd is
list_is t h from limit (B.Fetched f) is = absurd is
list_is t h from limit B.Count is = absurd is

status_is : (t : Props) (h : History) (p : PropId) (b : Body) → IsBody t h (Q.StatusOf p) b
    → (v : Verdict) × (b ≡ B.Status v) × (slice_get (full_of h t) p.0 ≡ Some v)
status_is t h p (B.Params values) is = absurd is
status_is t h p (B.Rows ps) is = absurd is
status_is t h p (B.Status v) is = (v, refl, is)
status_is t h p (B.Support s) is = absurd is
status_is t h p (B.Fetched f) is = absurd is
status_is t h p B.Count is = absurd is

fetched_is : (t : Props) (h : History) (c : Cursor) (limit : ℕ) (b : Body) → IsBody t h (Q.Fetch c limit) b
    → (f : Fetched) × (b ≡ B.Fetched f) × IsPage (rows_of h t) (length h.changes) c limit f
fetched_is t h c limit (B.Params values) is = absurd is
fetched_is t h c limit (B.Rows ps) is = absurd is
fetched_is t h c limit (B.Status v) is = absurd is
fetched_is t h c limit (B.Support s) is = absurd is
fetched_is t h c limit (B.Fetched f) is = (f, refl, is)
fetched_is t h c limit B.Count is = absurd is

count_is : (t : Props) (h : History) (b : Body) → IsBody t h Q.Count b → b ≡ B.Count
count_is t h (B.Params values) is = absurd is
count_is t h (B.Rows ps) is = absurd is
count_is t h (B.Status v) is = absurd is
count_is t h (B.Support s) is = absurd is
count_is t h (B.Fetched f) is = absurd is
count_is t h B.Count is = refl

body_one : (t : Props) (q : Question) (h : History) (a b : Body) → asks_support q ≡ false → IsBody t h q a
    → IsBody t h q b → a ≡ b
body_one t Q.Params h a b other first second = params_is t h a first ∙ sym (params_is t h b second)
body_one t (Q.List from limit) h a b other first second =
    list_is t h from limit a first ∙ sym (list_is t h from limit b second)
body_one t (Q.StatusOf p) h a b other first second =
    let x = status_is t h p a first in
    let y = status_is t h p b second in
    x.1 ∙ (ap B.Status (same_Some x.0 y.0 (sym x.2 ∙ y.2)) ∙ sym y.1)
body_one t (Q.SupportOf p) h a b other first second = absurd (false≢true (sym other))
body_one t (Q.Fetch c limit) h a b other first second =
    let x = fetched_is t h c limit a first in
    let y = fetched_is t h c limit b second in
    x.1 ∙ (ap B.Fetched (page_one (rows_of h t) (length h.changes) c limit x.0 y.0 x.2 y.2) ∙ sym y.1)
body_one t Q.Count h a b other first second = count_is t h a first ∙ sym (count_is t h b second)

answer_same : (m n v w : ℕ) (a b : Body) → m ≡ n → v ≡ w → a ≡ b
    → ◌≡◌ {A = Answer} (record { at = m; version = v; body = a }) (record { at = n; version = w; body = b })
answer_same m n v w a b at version body = cc

pub answers_are_one : AnswersAreOne
answers_are_one t q h a b other first second =
    answer_same a.at b.at a.version b.version a.body b.body (first.at_is ∙ sym second.at_is) (first.version_is ∙ sym second.version_is) (body_one t q h a.body b.body other first.body_is second.body_is)
