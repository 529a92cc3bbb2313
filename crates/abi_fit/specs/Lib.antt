pub mod FitWindow
