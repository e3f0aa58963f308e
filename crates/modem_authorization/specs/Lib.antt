pub mod Authorization
