pub mod CodeLaws
