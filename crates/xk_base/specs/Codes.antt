-- Images and programs in memory as data, so that a type can be seen as one.
use Rattle.std.specs.Prelude.{ℕ, Bool, List, refl}
use Rattle.std.specs.Coded.{Coded, code_by, coded×, coded_ℕ, coded_bool, coded_list}
use Rattle.std.specs.Ordering.{nat_cmp}
use Rattle.std.specs.FinMap as fin
use Rattle.xk_base.specs.declared.access.Rights.{Rights}
use Rattle.xk_base.specs.Image.{Page, Image}
use Rattle.xk_base.specs.Loaded.{Loaded}

abbrev pub rights_code : Coded Rights
rights_code = code_by ((Bool × Bool) × (Bool × Bool)) (coded× (coded× coded_bool coded_bool) (coded× coded_bool coded_bool))
    (λ r. ((r.read, r.write), (r.execute, r.user))) (λ p. record { read = p.0.0; write = p.0.1; execute = p.1.0; user = p.1.1 }) (λ _. refl)

abbrev pub page_code : Coded Page
page_code = code_by (Rights × List ℕ) (coded× rights_code (coded_list coded_ℕ)) (λ p. (p.perm, p.bytes)) (λ p. record { perm = p.0; bytes = p.1 }) (λ _. refl)

abbrev pub image_code : Coded Image
image_code = code_by (fin.FinMap nat_cmp Page × ℕ) (coded× (fin.code coded_ℕ page_code) coded_ℕ) (λ i. (i.pages, i.size)) (λ p. record { pages = p.0; size = p.1 }) (λ _. refl)

abbrev pub loaded_code : Coded Loaded
loaded_code = code_by ((Image × ℕ) × (ℕ × ℕ)) (coded× (coded× image_code coded_ℕ) (coded× coded_ℕ coded_ℕ))
    (λ l. ((l.image, l.pc), (l.sp, l.argc))) (λ p. record { image = p.0.0; pc = p.0.1; sp = p.1.0; argc = p.1.1 }) (λ _. refl)
