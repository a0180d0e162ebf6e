-- Printed lines of certificates.
use Rattle.std.proofs.Common.{◌≡◌, ◌++◌, ◌∙◌, ℕ, ℤ, List, [], map, ap}
use Rattle.std.specs.List.{flat_map}
use Rattle.sut_text.specs.Text.{line_text}
use Rattle.sut_classes.specs.ClassLists.{ClassLists}
use Rattle.sut_measures.specs.Names.{account_fields}
use Rattle.sut_measures.specs.declared.accounts.Account.{Account}
use Rattle.sut_cert.specs.CertificateFile.{cut_header, potentials_header}
use Rattle.sut_cert.specs.CertificateText.{cut_text, potential_fields, potentials_text}

pub potentials-printed : (cs : ClassLists) (ps pairs : List (Account × ℤ)) (empty head whole : List ℕ) → pairs ≡ ps → empty ≡ [] → head ≡ empty ++ line_text potentials_header
    → whole ≡ head ++ flat_map line_text (map (potential_fields cs) pairs) → whole ≡ potentials_text cs ps
unfolding potentials_text
potentials-printed cs ps pairs empty head whole d e f g = g ∙ (λ i. (f ∙ ap (λ t. t ++ line_text potentials_header) e) i ++ flat_map line_text (map (potential_fields cs) (d i)))

pub cut-printed : (cs : ClassLists) (set accounts : List Account) (empty head whole : List ℕ) → accounts ≡ set → empty ≡ [] → head ≡ empty ++ line_text cut_header
    → whole ≡ head ++ flat_map line_text (map (account_fields cs) accounts) → whole ≡ cut_text cs set
unfolding cut_text
cut-printed cs set accounts empty head whole d e f g = g ∙ (λ i. (f ∙ ap (λ t. t ++ line_text cut_header) e) i ++ flat_map line_text (map (account_fields cs) (d i)))
